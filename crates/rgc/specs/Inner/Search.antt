-- What a search for proofs of conditions keeps.
use Rattle.std.specs.Prelude.{◌≡◌, ◌⊎◌, ℕ, ◌+◌, ◌<◌, ◌≤◌, Option, Some, None, Result, Ok, Err, List, [], ◌∷◌, ◌++◌, length, slice_index_or, IfSome}
use Rattle.rg_words.specs.declared.limits.TheConstants.{MOST_VARIABLES}
use Rattle.rg_words.specs.declared.refusal.Refusal.{Refusal}
use Rattle.rg_words.specs.declared.refusal.SourceFile.TheVariants.{Derivation}
use Rattle.rg_clauses.specs.Conditions.{clauses_of_condition}
use Rattle.rg_tree.specs.ConditionTrees.{ConditionTree}
use Rattle.rg_tree.specs.Programs.{nth}
use Rattle.rg_find.specs.Judged.{IsJudged, IsJudgeRefusal}
use Rattle.rg_find.specs.declared.judgement.Judged.{Judged}
use Rattle.rg_find.specs.declared.judgement.Judged.TheVariants.{Holds, Fails, GaveUp, TooLarge}
use Rattle.rgc.specs.declared.proofs_found.Unproved.{Unproved}
use Rattle.rgc.specs.declared.proofs_found.Sought.{Sought}

-- what a condition of this number is kept as: something that is true of each condition of which the judgement is true
pub record IsKept (number : ℕ) (judged : Judged) (old new : List Unproved) : Type 0 where
  pub one : Unproved
  pub number_is : one.number ≡ number
  pub true_of : (c : ConditionTree) → IsJudged c judged → IsJudged c one.judged
  pub added : new ≡ old ++ one ∷ []

-- lines were found
abbrev pub IsHolding : Judged → Type 0
IsHolding (Holds lines) = Unit {0}
IsHolding (Fails first second) = ⊥
IsHolding GaveUp = ⊥
IsHolding TooLarge = ⊥

-- a condition is kept as unproved; or nothing is, where it holds
abbrev pub Takes : ℕ → Judged → List Unproved → List Unproved → Type 0
Takes number judged old new = (IsHolding judged × (new ≡ old)) ⊎ IsKept number judged old new

-- what is said of the condition with this number, from 1, is true of it
abbrev pub IsJudgedAt : List ConditionTree → ℕ → Judged → Type 0
IsJudgedAt conditions number judged = (c : ConditionTree) → nth conditions number ≡ Some c → IsJudged c judged

-- the same of what was sought; and the condition keeps the limit of variables
abbrev pub IsSoughtAt : List ConditionTree → ℕ → Sought → Type 0
IsSoughtAt conditions number sought =
    (c : ConditionTree) → nth conditions number ≡ Some c → IsJudged c sought.judged × ((clauses_of_condition c).variables ≤ MOST_VARIABLES)

-- the condition with this number isn't judged, for this reason
abbrev pub IsUnsoughtAt : List ConditionTree → ℕ → ℕ → Refusal → Type 0
IsUnsoughtAt conditions number steps e =
    (c : ConditionTree) × (nth conditions number ≡ Some c) × IsJudgeRefusal c Derivation number steps e

-- the answer of a search for lines of the condition with this number
abbrev pub IsAnswerAt : List ConditionTree → ℕ → ℕ → Result Sought Refusal → Type 0
IsAnswerAt conditions number steps (Ok sought) = IsSoughtAt conditions number sought
IsAnswerAt conditions number steps (Err e) = IsUnsoughtAt conditions number steps e

-- at each place stands what was sought for the condition there, from one place on, or nothing
abbrev pub AreSought : List ConditionTree → ℕ → ℕ → List (Option (Result Sought Refusal)) → Type 0
AreSought conditions from steps known = (i : ℕ) → i < length known → IfSome (slice_index_or known i None) (IsAnswerAt conditions (from + i + 1) steps)
