-- Derivations as written: their faults in the order of the text, and the lines that they stand for.
use Rattle.std.specs.Prelude.{◌≡◌, ◌↔◌, ℕ, ◌≤◌, List, [], ◌∷◌, ◌++◌}
use Rattle.std.specs.List.{flat_map}
use Rattle.rg_words.specs.declared.limits.TheConstants.{MOST_PLAIN_NUMBER}
use Rattle.rg_words.specs.Layout.{Word}
use Rattle.rg_text.specs.Text.{Leaf}
use Rattle.rg_tree.specs.Lines.{LineTree}
use Rattle.rg_syntax.specs.Written.{WrittenLine}
use Rattle.rg_resolve.specs.Faults.{Fault, number_of, plain_faults}
use Rattle.rg_resolve.specs.Programs.{spec_faults}
use Rattle.rg_resolve.specs.ProgramTyping.{SpecStandsFor}

-- the faults of a line: a number of it is too large, or its four formulas have faults, as those of a part
unfoldable pub line_faults : List Word → WrittenLine → List Fault
line_faults words l = plain_faults l.number ++ (plain_faults l.statement ++ (flat_map plain_faults l.premises ++ spec_faults words l.spec))

-- the faults of all lines, one line after another
abbrev pub derivation_faults : List Word → List WrittenLine → List Fault
derivation_faults words lines = flat_map (line_faults words) lines

-- the number that a leaf writes
abbrev pub leaf_number : Leaf → ℕ
leaf_number x = number_of x.text

-- a leaf stands for the number that it writes, which is at most 4,294,967,295
pub record NumberStandsFor (x : Leaf) (n : ℕ) : Type 0 where
  pub is : leaf_number x ≡ n
  pub small : n ≤ MOST_PLAIN_NUMBER

-- leaves stand for numbers, one by one
abbrev pub NumbersStandFor : List Leaf → List ℕ → Type 0
NumbersStandFor [] [] = Unit {0}
NumbersStandFor (x ∷ xs) (n ∷ ns) = NumberStandsFor x n × NumbersStandFor xs ns
NumbersStandFor [] (n ∷ ns) = ⊥
NumbersStandFor (x ∷ xs) [] = ⊥

-- a line as written stands for a line, which begins on the line of its first token
pub record LineStandsFor (words : List Word) (l : WrittenLine) (t : LineTree) : Type 0 where
  pub begin : l.begin.line ≡ t.source_line
  pub own : NumberStandsFor l.number t.own_number
  pub rule : l.rule ≡ t.rule
  pub statement : NumberStandsFor l.statement t.number
  pub premises : NumbersStandFor l.premises t.premises
  pub spec : SpecStandsFor words l.spec t.spec

-- lines stand for lines, one by one
abbrev pub DerivationStandsFor : List Word → List WrittenLine → List LineTree → Type 0
DerivationStandsFor words [] [] = Unit {0}
DerivationStandsFor words (l ∷ ls) (t ∷ ts) = LineStandsFor words l t × DerivationStandsFor words ls ts
DerivationStandsFor words [] (t ∷ ts) = ⊥
DerivationStandsFor words (l ∷ ls) [] = ⊥

-- a derivation stands for one list of lines at most
abbrev pub OneListOfLines : Type 0
OneListOfLines = (words : List Word) (lines : List WrittenLine) (s t : List LineTree) → DerivationStandsFor words lines s → DerivationStandsFor words lines t → s ≡ t

-- a derivation stands for lines exactly where it has no faults
abbrev pub FaultlessDerivation : Type 0
FaultlessDerivation = (words : List Word) (lines : List WrittenLine) → (derivation_faults words lines ≡ []) ↔ ((s : List LineTree) × DerivationStandsFor words lines s)
