use Rattle.std.proofs.Common.{◌≡◌, ◌++◌, drop}
use Rattle.std.specs.List.{filter}
use Rattle.rg_tree.specs.ProgramTrees.{program as program_tree}
use Rattle.rg_apart.specs.Conditions.{is_step, stepping}
use Rattle.rg_apart.proofs.visits.stepping.Given as goal

-- those so far, and the rest
abbrev pub invariant-loop-n : goal.invariant-loop-n
invariant-loop-n l = l.list.items ++ filter is_step (drop l.n-index l.n-items) ≡ stepping (program_tree l.program)
