-- How often a writer failed before and after a call.
use Rattle.std.specs.Prelude.{◌≡◌, ℕ, Result, OnOk}

-- where the call gives an answer, the writer didn't fail in it
abbrev pub NoFailure : {A E : Type 0} → Result A E → ℕ → ℕ → Type 0
NoFailure result before after = OnOk result (after ≡ before)
