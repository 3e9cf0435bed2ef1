use Rattle.std.proofs.Common.{◌≡◌, map, take}
use Rattle.rg_tree.specs.ConditionTrees.{assignment}
use Rattle.rg_tree.proofs.rule_conditions.copy_assigns.Given as goal

abbrev pub invariant-loop-a : goal.invariant-loop-a
invariant-loop-a l = map assignment l.copy.items ≡ map assignment (take l.a-index l.all)
