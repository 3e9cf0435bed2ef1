-- Steps that can be made are made.
use Rattle.std.proofs.Common.{◌≡◌, ℕ, Bool, true, false, refl}
use Rattle.rg_words.specs.States.{IsPair}
use Rattle.rg_tree.specs.Traces.{State}
use Rattle.rg_machine.specs.Machine.{Configuration, IsStepOf, StepFits, block_of}
use Rattle.rg_machine.specs.Replay.{IsMoveTo}
use Rattle.rg_machine.specs.declared.config.Stepped.{Stepped}
use Rattle.rg_machine.specs.declared.config.Stepped.TheVariants.{Did as did, Blocked as blocked, Ended as ended}
use Rattle.rg_floor.specs.Ready.{can_go}
use Rattle.rg_floor.proofs.Readiness.{ready_means_steps, not_both}

-- a part that can step makes its step
pub step_did : (c : Configuration) (who : ℕ) (r : Stepped) (d : Configuration) → StepFits c who r d → can_go (block_of c who) c.state ≡ true → IsStepOf c who d
step_did c who did d h can = h
step_did c who blocked d h can = absurd (h.0 ((ready_means_steps (block_of c who) c.state).0 can))
step_did c who ended d h can = absurd (not_both (block_of c who) c.state can h.0)

-- a move that keeps the fixed words is made
pub move_made : (c : Configuration) (t : State) (r : Bool) (d : Configuration) → (r ≡ true → IsMoveTo c t d) → (r ≡ false → IsPair c.words c.state t → ⊥) → IsPair c.words c.state t → d ≡ record c { state = t }
move_made c t true d f g pair =
    let m = f refl in
    (λ i. record { words = m.words i; codes = m.codes i; state = m.state i; places = m.places i })
move_made c t false d f g pair = absurd (g refl pair)
