-- The answer of a command is that of one of its kind.
use Rattle.std.proofs.Common.{◌≡◌, ℕ, List, [], Option, Result, Ok, Err, Bool, refl}
use Rattle.std.specs.Prelude.{OnOk}
use Rattle.std.specs.Borrow.{Bor}
use Rattle.rgc_line.specs.declared.command.Chosen.{Chosen}
use Rattle.rgc_line.specs.declared.command.Command.{Command}
use Rattle.rgc_line.specs.declared.command.Command.TheVariants.{Number, Check, Conditions, Prove, Valid, Clauses, Find, Explain, Emit, Accesses, Run, EmitOutline, AccessesOutline, RunOutline, Outline, Verify, Complete, Challenge}
use Rattle.rgc_line.specs.declared.command.Outlines.{Outlines}
use Rattle.rgc_commands.specs.Answers.{AreNotesOf}
use Rattle.rgc_commands.specs.Inner.Stops.{IsOverOutline}

-- what is so anyhow is so of an answer
pub on_ok_any : {A E : Type 0} (r : Result A E) (P : Type 0) → P → OnOk r P
on_ok_any (Ok a) P h = h
on_ok_any (Err e) P h = tt

-- a command that is none over texts is over an outline
pub others : (command : Command) → ((a : Bor (List ℕ)) → command ≡ Number a → ⊥) → ((a : Bor (List ℕ)) (b : Bor (List ℕ)) (c : Bor (List ℕ)) → command ≡ Check a b c → ⊥) → ((a : Bor (List ℕ)) (b : Bor (List ℕ)) (c : Bool) → command ≡ Conditions a b c → ⊥) → ((a : Bor (List ℕ)) (b : Bor (List ℕ)) (c : ℕ) (d : Option (Bor (List ℕ))) → command ≡ Prove a b c d → ⊥) → ((a : Bor (List ℕ)) (b : Bor (List ℕ)) → command ≡ Valid a b → ⊥) → ((a : Bor (List ℕ)) (b : Option Chosen) → command ≡ Clauses a b → ⊥) → ((a : Bor (List ℕ)) (b : ℕ) (c : Option Chosen) → command ≡ Find a b c → ⊥) → ((a : ℕ) → command ≡ Explain a → ⊥) → ((a : Bor (List ℕ)) (b : Bor (List ℕ)) (c : Bor (List ℕ)) → command ≡ Emit a b c → ⊥) → ((a : Bor (List ℕ)) (b : Bor (List ℕ)) (c : Bor (List ℕ)) → command ≡ Accesses a b c → ⊥) → ((a : Bor (List ℕ)) (b : Bor (List ℕ)) (c : Bor (List ℕ)) (d : Option (Bor (List ℕ))) (e : Option (Bor (List ℕ))) (f : ℕ) (g : Option (Bor (List ℕ))) → command ≡ Run a b c d e f g → ⊥) → IsOverOutline command
others (Number a) h0 h1 h2 h3 h4 h5 h6 h7 h8 h9 h10 = absurd (h0 a refl)
others (Check a b c) h0 h1 h2 h3 h4 h5 h6 h7 h8 h9 h10 = absurd (h1 a b c refl)
others (Conditions a b c) h0 h1 h2 h3 h4 h5 h6 h7 h8 h9 h10 = absurd (h2 a b c refl)
others (Prove a b c d) h0 h1 h2 h3 h4 h5 h6 h7 h8 h9 h10 = absurd (h3 a b c d refl)
others (Valid a b) h0 h1 h2 h3 h4 h5 h6 h7 h8 h9 h10 = absurd (h4 a b refl)
others (Clauses a b) h0 h1 h2 h3 h4 h5 h6 h7 h8 h9 h10 = absurd (h5 a b refl)
others (Find a b c) h0 h1 h2 h3 h4 h5 h6 h7 h8 h9 h10 = absurd (h6 a b c refl)
others (Explain a) h0 h1 h2 h3 h4 h5 h6 h7 h8 h9 h10 = absurd (h7 a refl)
others (Emit a b c) h0 h1 h2 h3 h4 h5 h6 h7 h8 h9 h10 = absurd (h8 a b c refl)
others (Accesses a b c) h0 h1 h2 h3 h4 h5 h6 h7 h8 h9 h10 = absurd (h9 a b c refl)
others (Run a b c d e f g) h0 h1 h2 h3 h4 h5 h6 h7 h8 h9 h10 = absurd (h10 a b c d e f g refl)
others (EmitOutline a) h0 h1 h2 h3 h4 h5 h6 h7 h8 h9 h10 = tt
others (AccessesOutline a) h0 h1 h2 h3 h4 h5 h6 h7 h8 h9 h10 = tt
others (RunOutline a b c d e) h0 h1 h2 h3 h4 h5 h6 h7 h8 h9 h10 = tt
others (Outline a b c d e f) h0 h1 h2 h3 h4 h5 h6 h7 h8 h9 h10 = tt
others (Verify a b c d) h0 h1 h2 h3 h4 h5 h6 h7 h8 h9 h10 = tt
others (Complete a b c d) h0 h1 h2 h3 h4 h5 h6 h7 h8 h9 h10 = tt
others (Challenge a b) h0 h1 h2 h3 h4 h5 h6 h7 h8 h9 h10 = tt

-- and the other way round
pub no_others : (command : Command) → ((a : Bor (List ℕ)) → command ≡ EmitOutline a → ⊥) → ((a : Bor (List ℕ)) → command ≡ AccessesOutline a → ⊥) → ((a : Bor (List ℕ)) (b : Option (Bor (List ℕ))) (c : Option (Bor (List ℕ))) (d : ℕ) (e : Option (Bor (List ℕ))) → command ≡ RunOutline a b c d e → ⊥) → ((a : Bor (List ℕ)) (b : Option ℕ) (c : Option (Bor (List ℕ))) (d : Option (Bor (List ℕ))) (e : Option (Bor (List ℕ))) (f : Option (Bor (List ℕ))) → command ≡ Outline a b c d e f → ⊥) → ((a : Outlines) (b : Option ℕ) (c : Bool) (d : Option (Bor (List ℕ))) → command ≡ Verify a b c d → ⊥) → ((a : Bor (List ℕ)) (b : Bool) → command ≡ Challenge a b → ⊥) → ((a : Bor (List ℕ)) (b : Option ℕ) (c : Bool) (d : Bool) → command ≡ Complete a b c d → ⊥) → IsOverOutline command → ⊥
no_others (Number a) h0 h1 h2 h3 h4 h5 h6 over = over
no_others (Check a b c) h0 h1 h2 h3 h4 h5 h6 over = over
no_others (Conditions a b c) h0 h1 h2 h3 h4 h5 h6 over = over
no_others (Prove a b c d) h0 h1 h2 h3 h4 h5 h6 over = over
no_others (Valid a b) h0 h1 h2 h3 h4 h5 h6 over = over
no_others (Clauses a b) h0 h1 h2 h3 h4 h5 h6 over = over
no_others (Find a b c) h0 h1 h2 h3 h4 h5 h6 over = over
no_others (Explain a) h0 h1 h2 h3 h4 h5 h6 over = over
no_others (Emit a b c) h0 h1 h2 h3 h4 h5 h6 over = over
no_others (Accesses a b c) h0 h1 h2 h3 h4 h5 h6 over = over
no_others (Run a b c d e f g) h0 h1 h2 h3 h4 h5 h6 over = over
no_others (EmitOutline a) h0 h1 h2 h3 h4 h5 h6 over = h0 a refl
no_others (AccessesOutline a) h0 h1 h2 h3 h4 h5 h6 over = h1 a refl
no_others (RunOutline a b c d e) h0 h1 h2 h3 h4 h5 h6 over = h2 a b c d e refl
no_others (Outline a b c d e f) h0 h1 h2 h3 h4 h5 h6 over = h3 a b c d e f refl
no_others (Verify a b c d) h0 h1 h2 h3 h4 h5 h6 over = h4 a b c d refl
no_others (Complete a b c d) h0 h1 h2 h3 h4 h5 h6 over = h6 a b c d refl
no_others (Challenge a b) h0 h1 h2 h3 h4 h5 h6 over = h5 a b refl

-- anything may be noted of a command over an outline
pub over_notes : (command : Command) (notes : List ℕ) → IsOverOutline command → AreNotesOf command notes
over_notes (Number a) notes over = absurd over
over_notes (Check a b c) notes over = absurd over
over_notes (Conditions a b c) notes over = absurd over
over_notes (Prove a b c d) notes over = absurd over
over_notes (Valid a b) notes over = absurd over
over_notes (Clauses a b) notes over = absurd over
over_notes (Find a b c) notes over = absurd over
over_notes (Explain a) notes over = absurd over
over_notes (Emit a b c) notes over = absurd over
over_notes (Accesses a b c) notes over = absurd over
over_notes (Run a b c d e f g) notes over = absurd over
over_notes (EmitOutline a) notes over = tt
over_notes (AccessesOutline a) notes over = tt
over_notes (RunOutline a b c d e) notes over = tt
over_notes (Outline a b c d e f) notes over = tt
over_notes (Verify a b c d) notes over = tt
over_notes (Complete a b c d) notes over = tt
over_notes (Challenge a b) notes over = tt
