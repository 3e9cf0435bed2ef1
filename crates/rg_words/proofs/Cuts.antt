-- Texts that went out in part.
use Rattle.std.proofs.Common.{◌≡◌, ◌+◌, ℕ, List, [], ◌++◌, Option, Result, Ok, Err, refl, sym, ap, append_assoc, append-nil, inl, inr}
use Rattle.std.specs.Prelude.{IfErr}
use Rattle.std.specs.Io.KnownBytes.{Appends}
use Rattle.rg_words.specs.declared.refusal.Refusal.{Refusal}
use Rattle.rg_words.specs.declared.refusal.RefusalNumber.TheVariants.{Write}
use Rattle.rg_words.specs.Refusals.{no_memory, refused}
use Rattle.rg_words.specs.Written.{AppendsBeginning}
use Rattle.rg_words.proofs.Written.{appends_none, appends_both}
use Rattle.rg_words.specs.Stopped.{IsCut, IsFailure, IsStopped}

module _ (old : Option (List ℕ)) (m : ℕ) (text : List ℕ) (e : Refusal) where
  -- before anything went out
  pub cut_at_once : e ≡ no_memory → IsCut old old m m text e
  cut_at_once why = record { went = ([], text, refl, appends_none old); why = inr (why, refl) }

  module _ (middle : Option (List ℕ)) (k : ℕ) (before : List ℕ) (went : Appends old middle before) (same : k ≡ m) where
    -- between two parts of the text
    pub cut_between : (rest : List ℕ) → text ≡ before ++ rest → e ≡ no_memory → IsCut old middle m k text e
    cut_between rest is why = record { went = (before, rest, is, went); why = inr (why, same) }

    -- within a part
    pub cut_within : (new : Option (List ℕ)) (n : ℕ) (part rest : List ℕ) → text ≡ before ++ (part ++ rest) → IsCut middle new k n part e → IsCut old new m n text e
    cut_within new n part rest is cut =
        let (front, others, part_is, part_went) = cut.went in
        record {
          went = (before ++ front, others ++ rest, rw (is, part_is, append_assoc front others rest) (sym (append_assoc before front (others ++ rest))), appends_both old middle new before front went part_went);
          why = rw (← same) cut.why;
        }

-- a part that the writer failed at
pub cut_by_writer : (old new : Option (List ℕ)) (m n : ℕ) (text : List ℕ) (e : Refusal) → AppendsBeginning old new text × (n ≡ m + 1) → e ≡ refused Write → IsCut old new m n text e
cut_by_writer old new m n text e stopped why = record { went = stopped.0; why = inl (why, stopped.1) }

-- a text went out, and then a call that writes the rest is refused, or isn't
pub cut_after : {A : Type 0} (old middle new : Option (List ℕ)) (m k n : ℕ) (before rest : List ℕ) (r : Result A Refusal) → Appends old middle before → k ≡ m → IfErr r (IsCut middle new k n rest) → IfErr r (IsCut old new m n (before ++ rest))
cut_after old middle new m k n before rest (Ok x) went same h = tt
cut_after old middle new m k n before rest (Err e) went same h =
    cut_within old m (before ++ rest) e middle k before went same new n rest [] (ap (λ t. before ++ t) (sym (append-nil rest))) h

-- files that are refused: nothing went out
pub refused_stops : (Refused : Refusal → Type 0) (old : Option (List ℕ)) (m : ℕ) (e : Refusal) → Refused e → IsStopped Refused old old m m e
refused_stops Refused old m e why = inl (why, appends_none old, refl)

-- a call that prints is refused, or isn't
pub failure_stops : {A : Type 0} (Refused : Refusal → Type 0) (old new : Option (List ℕ)) (m n : ℕ) (r : Result A Refusal) → IfErr r (IsFailure m n) → IfErr r (IsStopped Refused old new m n)
failure_stops Refused old new m n (Ok x) h = tt
failure_stops Refused old new m n (Err e) h = inr h

-- one refusal of files is a kind of another
pub stops_weaker : {A : Type 0} (P Q : Refusal → Type 0) (old new : Option (List ℕ)) (m n : ℕ) (r : Result A Refusal) → ((e : Refusal) → P e → Q e) → IfErr r (IsStopped P old new m n) → IfErr r (IsStopped Q old new m n)
stops_weaker P Q old new m n (Ok x) f h = tt
stops_weaker P Q old new m n (Err e) f (inl why) = inl (f e why.0, why.1, why.2)
stops_weaker P Q old new m n (Err e) f (inr why) = inr why

-- memory was refused, before anything failed
pub failure_by_memory : (m n : ℕ) (e : Refusal) → e ≡ no_memory → n ≡ m → IsFailure m n e
failure_by_memory m n e why same = inr (why, same)

-- the writer failed
pub failure_by_writer : (m n : ℕ) (e : Refusal) → e ≡ refused Write → n ≡ m + 1 → IsFailure m n e
failure_by_writer m n e why more = inl (why, more)

-- what came before didn't fail
pub failure_after : {A : Type 0} (m k n : ℕ) (r : Result A Refusal) → k ≡ m → IfErr r (IsFailure k n) → IfErr r (IsFailure m n)
failure_after m k n (Ok x) same h = tt
failure_after m k n (Err e) same h = rw (← same) h

-- a text that was cut was cut by a failure
pub failure_of_cut : {A : Type 0} (old new : Option (List ℕ)) (m n : ℕ) (text : List ℕ) (r : Result A Refusal) → IfErr r (IsCut old new m n text) → IfErr r (IsFailure m n)
failure_of_cut old new m n text (Ok x) h = tt
failure_of_cut old new m n text (Err e) h = h.why
