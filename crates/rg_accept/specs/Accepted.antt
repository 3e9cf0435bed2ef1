-- When a derivation and clause proofs are accepted for a program, and all three for its text; why they are refused; and what is then known of the
-- program's code.
use Rattle.std.specs.Prelude.{◌≡◌, ◌⊎◌, ℕ, List, ◌++◌, map}
use Rattle.rg_words.specs.declared.refusal.Refusal.{Refusal}
use Rattle.rg_tree.specs.ConditionTrees.{ConditionTree}
use Rattle.rg_tree.specs.Lines.{LineTree, AreTypedLines}
use Rattle.rg_tree.specs.Statements.{ProgramTree}
use Rattle.rg_tree.specs.Numbering.{statements_of_parts}
use Rattle.rg_tree.specs.Programs.{IsSatisfied}
use Rattle.rg_tree.specs.RuleConditions.{RuleCondition, as_condition, AllConditionsHold}
use Rattle.rg_rules.specs.Derivations.{conditions_asked}
use Rattle.rg_rules.specs.Faults.{Derives}
use Rattle.rg_rules.specs.Reading.{FitsProgram, IsDerivationRefusal}
use Rattle.rg_par.specs.Parallel.{parallel_conditions}
use Rattle.rg_hints.specs.Proved.{AreProved, IsProofsRefusal}
use Rattle.rg_code.specs.Code.{BlockTree, HasRunsOf, program_code}
use Rattle.rg_parse.specs.Programs.{SpellsProgram, IsProgramRefusal}

-- what the rules ask of a program and the lines of its derivation: first for the lines, then for the parallel parts
abbrev pub asked_of : ProgramTree → List LineTree → List RuleCondition
asked_of p lines = conditions_asked (statements_of_parts p.parts) lines lines ++ parallel_conditions p.spec p.parts

-- the conditions, which are numbered from 1 in this order
abbrev pub conditions_of : ProgramTree → List LineTree → List ConditionTree
conditions_of p lines = map (as_condition p.words) (asked_of p lines)

-- typed lines derive the program's parts, and all conditions are true
pub record IsProvedBy (p : ProgramTree) (lines : List LineTree) : Type 0 where
  pub typed : AreTypedLines p.words lines
  pub derives : Derives p.parts lines
  pub hold : AllConditionsHold (conditions_of p lines)

-- accepted by the written rules for this program: the derivation spells lines that derive its parts, and the proofs prove every condition
pub record IsAccepted (p : ProgramTree) (derivation proofs : List ℕ) : Type 0 where
  pub lines : List LineTree
  pub fits : FitsProgram p derivation lines
  pub proved : AreProved (conditions_of p lines) proofs

-- the first fault over both files: of the derivation, then of the proofs
abbrev pub IsAcceptRefusal : ProgramTree → List ℕ → List ℕ → Refusal → Type 0
IsAcceptRefusal p derivation proofs e =
    IsDerivationRefusal p derivation e ⊎ ((lines : List LineTree) × FitsProgram p derivation lines × IsProofsRefusal (conditions_of p lines) proofs e)

-- the derivation and the proofs are accepted by the written rules, the code is exactly that of the program, block by block, and has exactly its
-- runs, and every run from its pre, with steps of the environment inside its rely, makes only steps inside its guarantee and the acting part's
-- own, and where it has ended, stands in its post
pub record IsBuilt (p : ProgramTree) (derivation proofs : List ℕ) (code : List (List BlockTree)) : Type 0 where
  pub accepted : IsAccepted p derivation proofs
  pub compiled : code ≡ program_code p.parts
  pub runs : HasRunsOf p code
  pub satisfied : IsSatisfied p

-- a text, a derivation and clause proofs are accepted by the written rules: the text spells this program, for which the other two are accepted
pub record AreAccepted (text derivation proofs : List ℕ) (p : ProgramTree) : Type 0 where
  pub spells : SpellsProgram text p
  pub accepted : IsAccepted p derivation proofs

-- they are accepted for some program
abbrev pub IsAcceptedText : List ℕ → List ℕ → List ℕ → Type 0
IsAcceptedText text derivation proofs = (p : ProgramTree) × AreAccepted text derivation proofs p

-- the first fault over all three files: of the text, then of the derivation, then of the proofs
abbrev pub IsAcceptTextRefusal : List ℕ → List ℕ → List ℕ → Refusal → Type 0
IsAcceptTextRefusal text derivation proofs e =
    IsProgramRefusal text e ⊎ ((p : ProgramTree) × SpellsProgram text p × IsAcceptRefusal p derivation proofs e)

-- the text spells this program, whose derivation and proofs are accepted by the written rules; the code is exactly that of the program and has
-- exactly its runs, and it satisfies its specification
pub record IsBuiltText (text derivation proofs : List ℕ) (p : ProgramTree) (code : List (List BlockTree)) : Type 0 where
  pub spells : SpellsProgram text p
  pub built : IsBuilt p derivation proofs code
