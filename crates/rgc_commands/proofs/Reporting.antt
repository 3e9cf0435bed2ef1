-- How it is reported what a line has done.
use Rattle.std.proofs.Common.{◌≡◌, ◌+◌, ◌≤◌, ℕ, List, ◌++◌, Option, Result, Ok, Err, Bool, true, false, is_ok, if◌then◌else◌, sym, refl, inl, inr, ⊎_elim, ap, subst, arith}
use Rattle.std.specs.Io.KnownBytes.{Appends}
use Rattle.rg_words.specs.declared.refusal.Refusal.{Refusal}
use Rattle.rg_words.specs.Written.{AppendsBeginning, IsWritten}
use Rattle.rg_words.proofs.Written.{written_then, stopped_before}
use Rattle.rgc_answers.specs.Output.{Output}
use Rattle.rgc_commands.specs.Performed.{Writes}

-- a writer with these bytes and failures before and after a call
abbrev taken : Option (List ℕ) → Option (List ℕ) → ℕ → ℕ → Output
taken old new m n = record { before = old; after = new; failed_before = m; failed_after = n }

-- what a call that writes a text does to a writer
pub written_writes : {A E : Type 0} (old new : Option (List ℕ)) (m n : ℕ) (text : List ℕ) (r : Result A E) → IsWritten old new m n text r → Writes (taken old new m n) text
written_writes old new m n text (Ok x) h = inl h
written_writes old new m n text (Err e) h = inr h

-- where the first of two texts went out, and then the other was written
pub both_written : {A E : Type 0} (old middle new : Option (List ℕ)) (m k n : ℕ) (a b : List ℕ) (r : Result A E) → Appends old middle a → k ≡ m → IsWritten middle new k n b r → Writes (taken old new m n) (a ++ b)
both_written old middle new m k n a b r went same h = written_writes old new m n (a ++ b) r (written_then old middle new m k n a b r went same h)

-- a text that was written went out
pub written_ok : {A E : Type 0} (old new : Option (List ℕ)) (m n : ℕ) (text : List ℕ) (r : Result A E) → IsWritten old new m n text r → is_ok r ≡ true → Appends old new text × (n ≡ m)
written_ok old new m n text (Ok x) h is = h
written_ok old new m n text (Err e) h is = absurd (cc is)

-- one that wasn't was cut
pub written_err : {A E : Type 0} (old new : Option (List ℕ)) (m n : ℕ) (text : List ℕ) (r : Result A E) → IsWritten old new m n text r → is_ok r ≡ false → AppendsBeginning old new text × (n ≡ m + 1)
written_err old new m n text (Ok x) h is = absurd (cc is)
written_err old new m n text (Err e) h is = h

-- where the first of two texts was cut
pub first_cut : (old new : Option (List ℕ)) (m n : ℕ) (a b : List ℕ) → AppendsBeginning old new a → n ≡ m + 1 → Writes (taken old new m n) (a ++ b)
first_cut old new m n a b went more = inr (stopped_before old new a b went, more)

-- an answer whose status is 0 is what the command is asked for
pub status_zero : (b : Bool) → ◌≡◌ {A = ℕ} (if b then 0 else 1) 0 → b ≡ true
status_zero true h = refl
status_zero false h = absurd (omega (arith, h))
