use Rattle.std.proofs.Common.{◌≡◌, true, map, take, reverse, Some}
use Rattle.rg_shape.specs.Inner.Machine.{start}
use Rattle.rg_shape.proofs.shape.shape.Given as goal
use Rattle.rg_shape.proofs.Steps.{limited}

abbrev pub invariant-loop-i : goal.invariant-loop-i
invariant-loop-i l = limited true (start l.fn.text) (take l.i (map (λ t. t.kind) l.tokens)) ≡ Some (reverse l.points.items)
