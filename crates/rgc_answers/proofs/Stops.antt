-- Why a run stopped.
use Rattle.std.proofs.Common.{◌≡◌, ◌⊎◌, ◌+◌, ℕ, List, [], Option, Some, None, Err, true, refl, sym, ap, ◌∙◌, subst, inl, inr, arith}
use Rattle.std.specs.Prelude.{IfSome}
use Rattle.std.specs.Io.KnownBytes.{Appends}
use Rattle.rg_words.specs.declared.refusal.Refusal.{Refusal}
use Rattle.rg_words.specs.declared.refusal.RefusalNumber.{RefusalNumber}
use Rattle.rg_words.specs.declared.refusal.RefusalNumber.TheVariants.{Write, Mismatch, Stranger, Memory}
use Rattle.rg_words.specs.Refusals.{no_memory, refused}
use Rattle.rg_words.proofs.Written.{appends_none}
use Rattle.rg_runner.specs.Faults.{failures_after, is_run_fault}
use Rattle.rg_runner.specs.Running.{IsPlayed}
use Rattle.rgc_answers.specs.Output.{Output}
use Rattle.rgc_answers.specs.Refused.{opening_refusal, IsRunStopped}

-- a run stopped, of a writer with these bytes and failures before and after it
abbrev IsStoppedRun : (Refusal → Type 0) → Option (List ℕ) → Option (List ℕ) → ℕ → ℕ → Refusal → Type 0
IsStoppedRun Refuses old new m n = IsRunStopped Refuses (record { before = old; after = new; failed_before = m; failed_after = n })

-- files that are refused, or memory, before anything went out
pub unread_stops : (Unread Refuses : Refusal → Type 0) (old : Option (List ℕ)) (m : ℕ) (e : Refusal) → (Unread e → Refuses e) → (Unread e ⊎ (e ≡ no_memory)) → IsStoppedRun Refuses old old m m e
unread_stops Unread Refuses old m e f (inl why) = inl (inl (f why, appends_none old, refl))
unread_stops Unread Refuses old m e f (inr why) = inl (inr (inr (why, refl)))

pub refused_run : (Refuses : Refusal → Type 0) (old : Option (List ℕ)) (m : ℕ) (e : Refusal) → Refuses e → IsStoppedRun Refuses old old m m e
refused_run Refuses old m e why = inl (inl (why, appends_none old, refl))

module _ (Refuses : Refusal → Type 0) (old new : Option (List ℕ)) (m n : ℕ) where
  -- a fault of a run that was begun
  fault_stops : (number : RefusalNumber) → is_run_fault number ≡ true → n ≡ m + failures_after number → IsStoppedRun Refuses old new m n (opening_refusal number)
  fault_stops Write is more = inl (inr (inl (refl, more)))
  fault_stops Memory is more = inl (inr (inr (refl, omega (arith, more))))
  fault_stops Mismatch is more = inr (inl refl, omega (arith, more))
  fault_stops Stranger is more = inr (inr refl, omega (arith, more))
  fault_stops _ is more = absurd (cc is)

  -- the refusal of a run, with its place
  pub play_stops : (A : Type 0) (fault : Option RefusalNumber) (e placed : Refusal) → IsPlayed {A = A} fault (Err e) → IfSome fault (λ _. (new ≡ old) × (n ≡ m)) → n ≡ m + failures_after e.number → (e ≡ refused e.number → placed ≡ opening_refusal e.number) → ((number : RefusalNumber) → fault ≡ Some number → Refuses (opening_refusal number)) → IsStoppedRun Refuses old new m n placed
  play_stops A (Some number) e placed played kept more place why =
      let is : e ≡ refused number = cc played in
      let reported : placed ≡ opening_refusal number = place (is ∙ ap (λ (r : Refusal). refused r.number) (sym is)) ∙ ap (λ (r : Refusal). opening_refusal r.number) is in
      inl (inl (subst Refuses (sym reported) (why number refl), subst (λ (c : Option (List ℕ)). Appends old c []) (sym kept.0) (appends_none old), kept.1))
  play_stops A None e placed played kept more place why = subst (IsStoppedRun Refuses old new m n) (sym (place played.0)) (fault_stops e.number played.1 more)
