use Rattle.std.proofs.Common.{◌≡◌, map, drop}
use Rattle.rg_tree.specs.View.{formula}
use Rattle.rg_erase.specs.Erased.{all_of, and_all}
use Rattle.rg_erase.proofs.conjuncts.all_of.Given as goal

-- those so far, and the rest
abbrev pub invariant-loop-f : goal.invariant-loop-f
invariant-loop-f l = and_all (formula l.all) (map formula (drop l.f-index l.rest)) ≡ all_of (map formula l.list)
