use Rattle.std.proofs.Common.{◌≡◌, ◌++◌, map, drop}
use Rattle.rg_tree.specs.ProgramView.{part}
use Rattle.rg_c_plan.specs.View.{step}
use Rattle.rg_c_plan.specs.Accesses.{steps_of_parts}
use Rattle.rg_c_plan.proofs.step.steps_of_parts.Given as goal

-- those so far, and the rest
abbrev pub invariant-loop-part : goal.invariant-loop-part
invariant-loop-part l = map step l.list.items ++ steps_of_parts (map part (drop l.part-index l.parts)) ≡ steps_of_parts (map part l.parts)
