use Rattle.std.proofs.Common.{◌≡◌, map, drop}
use Rattle.rg_c_plan.specs.View.{step}
use Rattle.rg_c_plan.specs.Inner.Tests.{steps_crowd}
use Rattle.rg_c_plan.proofs.once.steps_crowd.Given as goal

-- none of those so far
abbrev pub invariant-loop-s : goal.invariant-loop-s
invariant-loop-s l = steps_crowd l.kinds l.word (map step (drop l.s-index l.steps)) ≡ steps_crowd l.kinds l.word (map step l.steps)
