use Rattle.std.proofs.Common.{◌≡◌, map, take}
use Rattle.rg_tree.specs.ConditionTrees.{assignment}
use Rattle.rg_code.specs.Code.{store_of}
use Rattle.rg_code.specs.BlockView.{store}
use Rattle.rg_code.proofs.postfix.stores.Given as goal

abbrev pub invariant-loop-a : goal.invariant-loop-a
invariant-loop-a l = map store l.list.items ≡ map store_of (map assignment (take l.a-index l.act))
