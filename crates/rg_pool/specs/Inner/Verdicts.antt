-- What is reported of one condition, and of some of them.
use Rattle.std.specs.Prelude.{◌≡◌, ℕ, ◌+◌, ◌<◌, Option, None, Result, List, length, slice_index_or, OnOk, IfErr, IfSome}
use Rattle.rg_words.specs.declared.refusal.Refusal.{Refusal}
use Rattle.rg_words.specs.Refusals.{no_memory}
use Rattle.rg_tree.specs.ConditionTrees.{ConditionTree}
use Rattle.rg_tree.specs.Conditions.{ConditionHolds}
use Rattle.rg_hints.specs.Sections.{SectionText}
use Rattle.rg_hints.specs.Proved.{section_for, IsProvedBy, IsConditionRefusal}

-- what is reported of the condition with this number, by its section or without one
pub record IsVerdict (section : Option SectionText) (k : ℕ) (c : ConditionTree) (r : Result (Unit {0}) Refusal) : Type 0 where
  pub proved : OnOk r (IsProvedBy section c)
  pub holds : OnOk r (ConditionHolds c)
  pub refused : IfErr r (IsConditionRefusal section k c)
  pub accepts : IsProvedBy section c → IfErr r (λ e. e ≡ no_memory)

-- what is reported of the condition at this place, from 0, after so many others, which are numbered from 1
abbrev pub IsVerdictAt : List SectionText → ℕ → List ConditionTree → ℕ → Result (Unit {0}) Refusal → Type 0
IsVerdictAt sections before conditions i r = (d : ConditionTree) → IsVerdict (section_for sections (before + i + 1)) (before + i + 1) (slice_index_or conditions i d) r

-- at each place stands what is reported of the condition there, or nothing
abbrev pub AreVerdicts : List SectionText → ℕ → List ConditionTree → List (Option (Result (Unit {0}) Refusal)) → Type 0
AreVerdicts sections before conditions known = (i : ℕ) → i < length conditions → IfSome (slice_index_or known i None) (IsVerdictAt sections before conditions i)
