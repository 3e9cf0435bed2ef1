use Rattle.std.proofs.Common.{◌≡◌, length, map, drop}
use Rattle.rg_tree.specs.ProgramView.{part}
use Rattle.rg_tree.specs.ProgramTrees.{program as program_tree}
use Rattle.rg_c_plan.specs.Orders.{waiting_from, waiting}
use Rattle.rg_c_plan.proofs.order.waiting.Given as goal

-- none of those so far
abbrev pub invariant-loop-place : goal.invariant-loop-place
invariant-loop-place l = waiting_from l.order (length l.program.parts.items) l.place (map part (drop l.place l.part-items)) ≡ waiting (program_tree l.program) l.order
