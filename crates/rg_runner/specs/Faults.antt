-- Why a run gives no result.
use Rattle.std.specs.Prelude.{◌≡◌, ℕ, Bool, true, false, Result, Ok, Err}
use Rattle.rg_words.specs.Refusals.{refused}
use Rattle.rg_words.specs.declared.refusal.Refusal.{Refusal}
use Rattle.rg_words.specs.declared.refusal.RefusalNumber.{RefusalNumber}
use Rattle.rg_words.specs.declared.refusal.RefusalNumber.TheVariants.{Write, Mismatch, Stranger, Memory}

-- how many failures of the writer lie after an answer: one after the refusal of a writer that failed, and else none
abbrev pub failures_after : RefusalNumber → ℕ
failures_after Write = 1
failures_after _ = 0

abbrev pub failures_in : {A : Type 0} → Result A Refusal → ℕ
failures_in (Ok x) = 0
failures_in (Err e) = failures_after e.number

-- why a run may give no result: the writer failed, the history isn't as it was printed or as the moves want it, a record came twice, or
-- memory was refused
abbrev pub is_run_fault : RefusalNumber → Bool
is_run_fault Write = true
is_run_fault Mismatch = true
is_run_fault Stranger = true
is_run_fault Memory = true
is_run_fault _ = false

-- a refusal of a run, which has no place
abbrev pub IsRunFault : Refusal → Type 0
IsRunFault e = (e ≡ refused e.number) × (is_run_fault e.number ≡ true)
