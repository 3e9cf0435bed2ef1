use Rattle.std.proofs.Common.{◌≡◌, length, map, take}
use Rattle.rg_tree.specs.Numbering.{statements}
use Rattle.rg_rules.specs.Inner.View.{referred}
use Rattle.rg_rules.proofs.table.sizes_of.Given as goal

abbrev pub invariant-loop-s : goal.invariant-loop-s
invariant-loop-s l = l.sizes.items ≡ map (λ s. length (statements s)) (map referred (take l.s-index l.list))
