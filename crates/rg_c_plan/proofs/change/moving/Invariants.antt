use Rattle.std.proofs.Common.{◌≡◌, ◌++◌, map, drop}
use Rattle.rg_tree.specs.ConditionTrees.{assignment}
use Rattle.rg_c_plan.specs.Changes.{moving}
use Rattle.rg_c_plan.proofs.change.moving.Given as goal

-- those so far, and those of the rest
abbrev pub invariant-loop-a : goal.invariant-loop-a
invariant-loop-a l = map assignment l.list.items ++ moving (map assignment (drop l.a-index l.act)) ≡ moving (map assignment l.act)
