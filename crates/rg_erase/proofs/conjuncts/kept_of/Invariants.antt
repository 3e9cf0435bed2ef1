use Rattle.std.proofs.Common.{◌≡◌, ◌++◌, map, drop}
use Rattle.rg_tree.specs.View.{formula}
use Rattle.rg_erase.specs.Erased.{kept_of}
use Rattle.rg_erase.proofs.conjuncts.kept_of.Given as goal

-- those so far, and those of the rest
abbrev pub invariant-loop-f : goal.invariant-loop-f
invariant-loop-f l = map formula l.kept.items ++ kept_of l.erased (map formula (drop l.f-index l.list)) ≡ kept_of l.erased (map formula l.list)
