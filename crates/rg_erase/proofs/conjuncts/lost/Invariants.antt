use Rattle.std.proofs.Common.{◌≡◌, ◌++◌, map, drop}
use Rattle.std.specs.Prelude.{is_some}
use Rattle.std.specs.List.{filter}
use Rattle.rg_tree.specs.View.{formula}
use Rattle.rg_erase.specs.Erased.{speaks_of, lost}
use Rattle.rg_erase.proofs.conjuncts.lost.Given as goal

-- those so far, and those of the rest
abbrev pub invariant-loop-f : goal.invariant-loop-f
invariant-loop-f l = map formula l.list.items ++ filter (λ g. is_some (speaks_of l.erased l.erased g)) (map formula (drop l.f-index l.f-items)) ≡ lost l.erased (formula l.f)
