-- Why a call that prints is refused, and what went out until then.
use Rattle.std.specs.Prelude.{◌≡◌, ◌⊎◌, ◌+◌, ℕ, List, [], Option}
use Rattle.std.specs.Io.KnownBytes.{Appends}
use Rattle.rg_words.specs.declared.refusal.Refusal.{Refusal}
use Rattle.rg_words.specs.declared.refusal.RefusalNumber.TheVariants.{Write}
use Rattle.rg_words.specs.Refusals.{no_memory, refused}
use Rattle.rg_words.specs.Written.{AppendsBeginning}

-- the call is refused as `Write` where the writer failed, once more than before; and else for want of memory, where it didn't
abbrev pub IsFailure : ℕ → ℕ → Refusal → Type 0
IsFailure failed after e = ((e ≡ refused Write) × (after ≡ failed + 1)) ⊎ ((e ≡ no_memory) × (after ≡ failed))

-- a text was written in part: a beginning of it went out
pub record IsCut (old new : Option (List ℕ)) (failed after : ℕ) (text : List ℕ) (e : Refusal) : Type 0 where
  pub went : AppendsBeginning old new text
  pub why : IsFailure failed after e

-- a call over files printed nothing, since they are refused so; or what it printed was cut
abbrev pub IsStopped : (Refusal → Type 0) → Option (List ℕ) → Option (List ℕ) → ℕ → ℕ → Refusal → Type 0
IsStopped Refused old new failed after e = (Refused e × Appends old new [] × (after ≡ failed)) ⊎ IsFailure failed after e
