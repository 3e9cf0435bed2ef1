use Rattle.std.proofs.Common.{◌≡◌, map, drop}
use Rattle.rg_tree.specs.ConditionTrees.{assignment}
use Rattle.rg_erase.specs.Faults.{values_mention}
use Rattle.rg_erase.proofs.reads.values_mention.Given as goal

-- those so far mention none
abbrev pub invariant-loop-a : goal.invariant-loop-a
invariant-loop-a l = values_mention l.erased (map assignment (drop l.a-index l.act)) ≡ values_mention l.erased (map assignment l.act)
