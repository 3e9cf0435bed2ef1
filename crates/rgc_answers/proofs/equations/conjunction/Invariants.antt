use Rattle.std.proofs.Common.{◌≡◌, [], ◌∷◌, ◌++◌, map, vec_len}
use Rattle.rg_tree.specs.View.{formula}
use Rattle.rgc_answers.specs.Equations.{conjunction}
use Rattle.rgc_answers.proofs.equations.conjunction.Given as goal

-- what is left, with the last ones joined
abbrev pub invariant-loop-before : goal.invariant-loop-before
invariant-loop-before l = conjunction (map formula l.all.items ++ formula l.whole ∷ []) ≡ conjunction (map formula l.fn.all.items)

abbrev pub decreases-loop-before : goal.decreases-loop-before
decreases-loop-before l = vec_len l.all
