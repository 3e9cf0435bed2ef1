use Rattle.std.proofs.Common.{◌≡◌, map, take}
use Rattle.rg_tree.specs.View.{formula}
use Rattle.rg_tree.specs.ProgramView.{part}
use Rattle.rg_par.proofs.conditions.posts.Given as goal

abbrev pub invariant-loop-part : goal.invariant-loop-part
invariant-loop-part l =
    map formula l.all.items ≡ map (λ p. p.spec.post) (map part (take l.part-index l.parts))
