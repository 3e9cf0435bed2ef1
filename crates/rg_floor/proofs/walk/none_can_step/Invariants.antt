use Rattle.std.proofs.Common.{◌≡◌, ℕ, ◌<◌, ◌≤◌}
use Rattle.rg_machine.specs.Machine.{CanStep}
use Rattle.rg_floor.proofs.walk.none_can_step.Given as goal

-- none of the first parts can step
abbrev pub invariant-loop-i : goal.invariant-loop-i
invariant-loop-i l = record {
  none : (j : ℕ) → 0 < j → j ≤ l.i → CanStep l.fn.config j → ⊥;
  same : l.config ≡ l.fn.config;
}
