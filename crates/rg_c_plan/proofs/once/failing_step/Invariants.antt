use Rattle.std.proofs.Common.{◌≡◌, map, drop}
use Rattle.rg_c_plan.specs.View.{step}
use Rattle.rg_c_plan.specs.Kinds.{failing_step}
use Rattle.rg_c_plan.proofs.once.failing_step.Given as goal

-- none of those so far
abbrev pub invariant-loop-s : goal.invariant-loop-s
invariant-loop-s l = failing_step l.kinds (map step (drop l.s-index l.steps)) ≡ failing_step l.kinds (map step l.steps)
