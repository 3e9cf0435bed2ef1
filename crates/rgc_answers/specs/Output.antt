-- What a writer took in a call.
use Rattle.std.specs.Prelude.{ℕ, List, Option}

-- the bytes that a writer had taken before and has after a call, where it reports them, and how often it had failed and has
pub record Output : Type 0 where
  pub before : Option (List ℕ)
  pub after : Option (List ℕ)
  pub failed_before : ℕ
  pub failed_after : ℕ

-- the same, by what a kind of writer reports, of the writer before and after a call
abbrev pub output : {W : Type 0} → (W → Option (List ℕ)) → (W → ℕ) → W → W → Output
output contents failures old new = record { before = contents old; after = contents new; failed_before = failures old; failed_after = failures new }
