use Rattle.std.proofs.Common.{◌≡◌, reverse, vec_len}
use Rattle.rg_shape.specs.Inner.Machine.{complete}
use Rattle.rg_shape.proofs.shape.complete.Given as goal

abbrev pub invariant-loop-point : goal.invariant-loop-point
invariant-loop-point l = complete l.sort (reverse l.points.items) ≡ complete l.sort (reverse l.initial.points.items)

abbrev pub decreases-loop-point : goal.decreases-loop-point
decreases-loop-point l = vec_len l.points
