use Rattle.std.proofs.Common.{◌≡◌, ◌++◌, map, drop}
use Rattle.rg_tree.specs.ProgramView.{part}
use Rattle.rg_tree.specs.ProgramTrees.{program as program_tree}
use Rattle.rg_c_report.specs.Orders.{interrupted_from, interrupted}
use Rattle.rg_c_report.proofs.orders.interrupted.Given as goal

-- those so far, and those of the rest
abbrev pub invariant-loop-other : goal.invariant-loop-other
invariant-loop-other l = map (λ t. t.now) l.names.items ++ interrupted_from l.order l.place l.other (map part (drop l.other l.part-items)) ≡ interrupted (program_tree l.program) l.order l.place
