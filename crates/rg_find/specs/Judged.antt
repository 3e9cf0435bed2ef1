-- What a search may say of a condition.
use Rattle.std.specs.Prelude.{◌≡◌, ◌⊎◌, ℕ, ◌≤◌, ◌<◌, false, List, length, Option}
use Rattle.rg_words.specs.declared.limits.TheConstants.{MOST_VARIABLES, MOST_DECISIONS, MOST_PROOF_BYTES}
use Rattle.rg_words.specs.declared.refusal.Refusal.{Refusal}
use Rattle.rg_words.specs.declared.refusal.RefusalNumber.TheVariants.{Limit}
use Rattle.rg_words.specs.declared.refusal.SourceFile.{SourceFile}
use Rattle.rg_words.specs.declared.refusal.Place.TheVariants.{Condition}
use Rattle.rg_words.specs.Refusals.{no_memory, refused, refused_in}
use Rattle.rg_words.specs.States.{Valuation, IsPair}
use Rattle.rg_tree.specs.ConditionTrees.{ConditionTree, condition_holds, ConditionHolds}
use Rattle.rg_bits.specs.Inputs.{state_of, own_second}
use Rattle.rg_clauses.specs.Conditions.{clauses_of_condition}
use Rattle.rg_hints.specs.Normal.{section_text}
use Rattle.rg_hints.specs.Verdict.{IsClosed}
use Rattle.rg_find.specs.Found.{HasNoGaps}
use Rattle.rg_find.specs.declared.judgement.Judged.{Judged}
use Rattle.rg_find.specs.declared.judgement.Judged.TheVariants.{Holds, Fails, GaveUp, TooLarge}

-- the condition fails at two states that agree on the fixed words: this one, and a second one that is this where the condition speaks of any two
pub record FailsAt (c : ConditionTree) (first : Valuation) (second : Option Valuation) : Type 0 where
  pub before : List ℕ
  pub after : List ℕ
  pub pair : IsPair c.words before after
  pub fails : condition_holds c before after ≡ false
  pub first_is : first ≡ state_of c.words before
  pub second_is : second ≡ own_second c.second c.words after

-- lines are closed for the clauses of the condition, which is true; or it fails at the states
abbrev pub IsJudged : ConditionTree → Judged → Type 0
IsJudged c (Holds lines) = (lines.given ≡ length (clauses_of_condition c).clauses) × IsClosed (clauses_of_condition c).clauses lines × ConditionHolds c
IsJudged c (Fails first second) = FailsAt c first second
IsJudged c GaveUp = Unit {0}
IsJudged c TooLarge = Unit {0}

-- lines that are given have a text that is no longer than a proofs file may be
abbrev pub JudgedFits : Judged → Type 0
JudgedFits (Holds lines) = length (section_text lines) ≤ MOST_PROOF_BYTES
JudgedFits (Fails first second) = Unit {0}
JudgedFits GaveUp = Unit {0}
JudgedFits TooLarge = Unit {0}

-- the numbers of lines that are given begin at one above the clauses of the condition, and have no gaps
abbrev pub JudgedInOrder : Judged → Type 0
JudgedInOrder (Holds lines) = HasNoGaps lines
JudgedInOrder (Fails first second) = Unit {0}
JudgedInOrder GaveUp = Unit {0}
JudgedInOrder TooLarge = Unit {0}

-- why nothing is said of it: for want of memory; or else for its variables; or else for the decisions
abbrev pub IsJudgeRefusal : ConditionTree → SourceFile → ℕ → ℕ → Refusal → Type 0
IsJudgeRefusal c file number steps r =
    (r ≡ no_memory)
    ⊎ ((MOST_VARIABLES < (clauses_of_condition c).variables) × (r ≡ refused_in Limit file (Condition number)))
    ⊎ (((clauses_of_condition c).variables ≤ MOST_VARIABLES) × (MOST_DECISIONS < steps) × (r ≡ refused Limit))
