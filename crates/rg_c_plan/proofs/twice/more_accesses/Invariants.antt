use Rattle.std.proofs.Common.{◌≡◌, map, drop}
use Rattle.rg_tree.specs.ConditionTrees.{assignment}
use Rattle.rg_c_plan.specs.Changes.{moving}
use Rattle.rg_c_plan.specs.Once.{more_accesses}
use Rattle.rg_c_plan.proofs.twice.more_accesses.Given as goal

-- none of those so far does, with a later one
abbrev pub invariant-loop-i : goal.invariant-loop-i
invariant-loop-i l = more_accesses l.kinds (moving (map assignment (drop l.i l.act))) ≡ more_accesses l.kinds (moving (map assignment l.act))
