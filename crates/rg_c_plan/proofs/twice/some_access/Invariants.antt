use Rattle.std.proofs.Common.{◌≡◌, map, drop}
use Rattle.rg_tree.specs.ConditionTrees.{assignment}
use Rattle.rg_c_plan.specs.Changes.{moving}
use Rattle.rg_c_plan.specs.Once.{some_access}
use Rattle.rg_c_plan.proofs.twice.some_access.Given as goal

-- none of those so far
abbrev pub invariant-loop-a : goal.invariant-loop-a
invariant-loop-a l = some_access l.kinds (moving (map assignment (drop l.a-index l.act))) ≡ some_access l.kinds (moving (map assignment l.act))
