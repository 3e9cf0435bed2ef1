-- What a line of a derivation must meet, in which order, and the first fault of a derivation.
use Rattle.std.specs.Prelude.{◌≡◌, ℕ, suc, ◌+◌, ◌<◌, ◌≤◌, List, [], ◌∷◌, Option, Some, None, ◌⊎◌, length, map}
use Rattle.rg_words.specs.declared.refusal.RefusalNumber.{RefusalNumber}
use Rattle.rg_words.specs.declared.refusal.RefusalNumber.TheVariants.{LineNumber, NotEarlier, RuleDoesNotFit, WrongStatement, FormulaDiffers, PartNotDerived}
use Rattle.rg_words.specs.declared.refusal.Refusal.{Refusal}
use Rattle.rg_words.specs.declared.refusal.SourceFile.TheVariants.{Derivation}
use Rattle.rg_words.specs.Refusals.{refused_at}
use Rattle.rg_words.specs.declared.operators.Connective.TheVariants.{And}
use Rattle.rg_tree.specs.Trees.{Proposition, negation, connected}
use Rattle.rg_tree.specs.Statements.{Statement, skip, assign, await, sequence, branch, loop, Items, one, more, Specification, PartTree}
use Rattle.rg_tree.specs.Numbering.{statements, statements_of_parts}
use Rattle.rg_tree.specs.Programs.{nth}
use Rattle.rg_tree.specs.declared.line.Rule.{Rule}
use Rattle.rg_tree.specs.declared.line.Rule.TheVariants.{Basic, Atomic, Seq, If, Loop, Conseq}
use Rattle.rg_tree.specs.Lines.{LineTree}
use Rattle.rg_rules.specs.Derivations.{DerivationFits}

-- how many items there are
abbrev pub count_items : Items → ℕ
count_items (one s) = 1
count_items (more s items) = suc (count_items items)

-- how many premises a rule asks for a statement; none where it isn't for that kind of statement
abbrev pub premise_count : Rule → Statement → Option ℕ
premise_count Basic (skip row) = Some 0
premise_count Basic (assign row a) = Some 0
premise_count Atomic (await row b act) = Some 0
premise_count Seq (sequence row s items) = Some (suc (count_items items))
premise_count If (branch row b s t) = Some 2
premise_count Loop (loop row b s) = Some 1
premise_count Conseq s = Some 1
premise_count _ _ = None

-- the numbers of items, of which the first is statement n
abbrev pub item_numbers : ℕ → Items → List ℕ
item_numbers n (one s) = n ∷ []
item_numbers n (more s items) = n ∷ item_numbers (n + length (statements s)) items

-- the statements whose lines a rule asks as premises, in order, for a statement of number n
abbrev pub premise_numbers : ℕ → Rule → Statement → List ℕ
premise_numbers n Seq (sequence row s items) = item_numbers (n + 1) (more s items)
premise_numbers n If (branch row b s t) = (n + 1) ∷ (n + 1 + length (statements s)) ∷ []
premise_numbers n Loop (loop row b s) = (n + 1) ∷ []
premise_numbers n Conseq s = n ∷ []
premise_numbers n _ _ = []

-- each is the number of a line before line k
abbrev pub AreEarlier : ℕ → List ℕ → Type 0
AreEarlier k [] = Unit {0}
AreEarlier k (i ∷ is) = (1 ≤ i) × (i < k) × AreEarlier k is

-- the line that was found, and the lines after it
abbrev pub found_first : Option LineTree → List LineTree → List LineTree
found_first None lines = lines
found_first (Some line) lines = line ∷ lines

-- the lines of these numbers
abbrev pub lines_at : List LineTree → List ℕ → List LineTree
lines_at lines [] = []
lines_at lines (i ∷ is) = found_first (nth lines i) (lines_at lines is)

-- formulas of one rely and one guarantee, from the pre to the post, each post the next pre
abbrev pub AreChained : Specification → List Specification → Type 0
AreChained spec [] = ⊥
AreChained spec (a ∷ []) = a ≡ spec
AreChained spec (a ∷ b ∷ rest) = (a ≡ record spec { post = a.post }) × AreChained (record spec { pre = a.post }) (b ∷ rest)

-- formulas of the two blocks of an `if`: from the pre with the test, and without it
abbrev pub AreChoices : Specification → Proposition → List Specification → Type 0
AreChoices spec b (x ∷ y ∷ []) =
    (x ≡ record spec { pre = connected And spec.pre b }) × (y ≡ record spec { pre = connected And spec.pre (negation b) })
AreChoices spec b _ = ⊥

-- formulas of the body of a loop: from the pre with the test back to the pre
abbrev pub AreTurn : Specification → Proposition → List Specification → Type 0
AreTurn spec b (x ∷ []) = x ≡ record spec { pre = connected And spec.pre b; post = spec.pre }
AreTurn spec b _ = ⊥

-- the formulas of the premises are as the rule asks
abbrev pub TreesFit : Specification → Rule → Statement → List Specification → Type 0
TreesFit spec Seq (sequence row s items) from = AreChained spec from
TreesFit spec If (branch row b s t) from = AreChoices spec b from
TreesFit spec Loop (loop row b s) from = AreTurn spec b from
TreesFit spec _ _ from = Unit {0}

-- a demand with its fault: where it isn't met the answer is the fault, and where it is the rest decides
abbrev pub Asks : RefusalNumber → Type 0 → Type 0 → Option RefusalNumber → Type 0
Asks fault demand rest answer = (demand × rest) ⊎ ((demand → ⊥) × (answer ≡ Some fault))

-- the demands on line k of a statement, in this order
abbrev pub IsStatementAnswer : List LineTree → ℕ → LineTree → Option Statement → Option RefusalNumber → Type 0
IsStatementAnswer lines k line None answer = answer ≡ Some WrongStatement
IsStatementAnswer lines k line (Some s) answer =
    Asks RuleDoesNotFit (premise_count line.rule s ≡ Some (length line.premises))
    (Asks NotEarlier (AreEarlier k line.premises)
    (Asks WrongStatement (map (λ l. l.number) (lines_at lines line.premises) ≡ premise_numbers line.number line.rule s)
    (Asks FormulaDiffers (TreesFit line.spec line.rule s (map (λ l. l.spec) (lines_at lines line.premises))) (answer ≡ None) answer)
    answer)
    answer)
    answer

-- the first demand that line k doesn't meet, in a program with these statements; none where it meets all
abbrev pub IsLineAnswer : List Statement → List LineTree → ℕ → LineTree → Option RefusalNumber → Type 0
IsLineAnswer all lines k line answer =
    Asks LineNumber (line.own_number ≡ k) (IsStatementAnswer lines k line (nth all line.number) answer) answer

-- a line of this statement with these formulas
pub record IsDerived (lines : List LineTree) (number : ℕ) (spec : Specification) : Type 0 where
  pub place : ℕ
  pub line : LineTree
  pub found : nth lines place ≡ Some line
  pub same_number : line.number ≡ number
  pub same_spec : line.spec ≡ spec

-- each part has a line of its whole body with its four formulas; the first part's body is statement n
abbrev pub PartsDerived : List LineTree → ℕ → List PartTree → Type 0
PartsDerived lines n [] = Unit {0}
PartsDerived lines n (p ∷ ps) = IsDerived lines n p.spec × PartsDerived lines (n + length (statements p.body)) ps

-- the lines before line k meet all demands
abbrev pub AreFaultlessBefore : List Statement → List LineTree → ℕ → Type 0
AreFaultlessBefore all lines k = (i : ℕ) (line : LineTree) → i < k → nth lines i ≡ Some line → IsLineAnswer all lines i line None

-- line k is the first that doesn't meet its demands
pub record IsFirstBadLine (all : List Statement) (lines : List LineTree) (refusal : Refusal) : Type 0 where
  pub place : ℕ
  pub line : LineTree
  pub number : RefusalNumber
  pub found : nth lines place ≡ Some line
  pub fault : IsLineAnswer all lines place line (Some number)
  pub before : AreFaultlessBefore all lines place
  pub refused : refusal ≡ refused_at number Derivation line.source_line

-- all lines meet their demands, and some part isn't derived: reported at the last line of the source
pub record IsMissingPart (parts : List PartTree) (lines : List LineTree) (last : ℕ) (refusal : Refusal) : Type 0 where
  pub before : AreFaultlessBefore (statements_of_parts parts) lines (suc (length lines))
  pub missing : PartsDerived lines 1 parts → ⊥
  pub refused : refusal ≡ refused_at PartNotDerived Derivation last

-- the first fault of a derivation of these parts, whose source ends on this line
abbrev pub IsFirstFault : List PartTree → List LineTree → ℕ → Refusal → Type 0
IsFirstFault parts lines last refusal = IsFirstBadLine (statements_of_parts parts) lines refusal ⊎ IsMissingPart parts lines last refusal

-- each line is numbered by its place
abbrev pub AreNumbered : List LineTree → Type 0
AreNumbered lines = (k : ℕ) (line : LineTree) → nth lines k ≡ Some line → line.own_number ≡ k

-- lines that derive these parts
pub record Derives (parts : List PartTree) (lines : List LineTree) : Type 0 where
  pub numbered : AreNumbered lines
  pub lines_fit : DerivationFits (statements_of_parts parts) lines
  pub parts_derived : PartsDerived lines 1 parts

-- lines that derive the parts have no fault
abbrev pub DerivationsHaveNoFault : Type 0
DerivationsHaveNoFault =
    (parts : List PartTree) (lines : List LineTree) (last : ℕ) (refusal : Refusal) → Derives parts lines → IsFirstFault parts lines last refusal → ⊥
