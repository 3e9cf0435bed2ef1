use Rattle.std.proofs.Common.{◌≡◌, ◌++◌, map, drop}
use Rattle.rg_tree.specs.ConditionTrees.{assignment}
use Rattle.rg_erase.specs.Erased.{kept_assignments}
use Rattle.rg_erase.proofs.kept.kept_assignments.Given as goal

-- those so far, and those of the rest
abbrev pub invariant-loop-a : goal.invariant-loop-a
invariant-loop-a l = map assignment l.list.items ++ kept_assignments l.erased (map assignment (drop l.a-index l.act)) ≡ kept_assignments l.erased (map assignment l.act)
