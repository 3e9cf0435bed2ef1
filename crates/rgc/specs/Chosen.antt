-- Conditions of a text's program with its derivation, chosen by their numbers.
use Rattle.std.specs.Prelude.{◌≡◌, ◌⊎◌, ℕ, ◌<◌, ◌≤◌, List, Some, None}
use Rattle.rg_words.specs.declared.limits.TheConstants.{MOST_VARIABLES, MOST_DECISIONS}
use Rattle.rg_words.specs.declared.refusal.Refusal.{Refusal}
use Rattle.rg_words.specs.declared.refusal.RefusalNumber.TheVariants.{Limit, UnknownCondition}
use Rattle.rg_words.specs.declared.refusal.SourceFile.TheVariants.{Derivation}
use Rattle.rg_words.specs.declared.refusal.Place.TheVariants.{Condition}
use Rattle.rg_words.specs.Refusals.{no_memory, refused, refused_in}
use Rattle.rg_tree.specs.ConditionTrees.{ConditionTree}
use Rattle.rg_tree.specs.Lines.{LineTree}
use Rattle.rg_tree.specs.Statements.{ProgramTree}
use Rattle.rg_tree.specs.Programs.{nth}
use Rattle.rg_clauses.specs.Conditions.{clauses_of_condition}
use Rattle.rg_accept.specs.Accepted.{conditions_of}
use Rattle.rgc.specs.Pieces.{AreDerived, IsDeriveRefusal}

-- the condition of this number, from 1, of the text's program with this derivation
pub record IsChosen (text : List ℕ) (derivation : List (List ℕ)) (number : ℕ) (c : ConditionTree) : Type 0 where
  pub program : ProgramTree
  pub lines : List LineTree
  pub derived : AreDerived text derivation program lines
  pub is : nth (conditions_of program lines) number ≡ Some c

-- the program with its derivation has no condition of this number
pub record IsUnknown (text : List ℕ) (derivation : List (List ℕ)) (number : ℕ) : Type 0 where
  pub program : ProgramTree
  pub lines : List LineTree
  pub derived : AreDerived text derivation program lines
  pub none : nth (conditions_of program lines) number ≡ None

-- why there is no such condition: for want of memory, or a fault of the files, or since none has its number
abbrev pub IsChoiceRefusal : List ℕ → List (List ℕ) → ℕ → Refusal → Type 0
IsChoiceRefusal text derivation number e =
    (e ≡ no_memory)
    ⊎ IsDeriveRefusal text derivation e
    ⊎ (IsUnknown text derivation number × (e ≡ refused_in UnknownCondition Derivation (Condition number)))

-- why it has no clauses: none is chosen, or it has too many variables
abbrev pub IsChosenClausesRefusal : List ℕ → List (List ℕ) → ℕ → Refusal → Type 0
IsChosenClausesRefusal text derivation number e =
    IsChoiceRefusal text derivation number e
    ⊎ ((c : ConditionTree) × IsChosen text derivation number c × (MOST_VARIABLES < (clauses_of_condition c).variables) × (e ≡ refused_in Limit Derivation (Condition number)))

-- why nothing is said of it: it has no clauses; or else too many decisions are asked for
abbrev pub IsChosenFindRefusal : List ℕ → List (List ℕ) → ℕ → ℕ → Refusal → Type 0
IsChosenFindRefusal text derivation number steps e =
    IsChosenClausesRefusal text derivation number e
    ⊎ ((c : ConditionTree) × IsChosen text derivation number c × ((clauses_of_condition c).variables ≤ MOST_VARIABLES) × (MOST_DECISIONS < steps) × (e ≡ refused Limit))
