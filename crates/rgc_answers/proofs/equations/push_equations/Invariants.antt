use Rattle.std.proofs.Common.{◌≡◌, ◌++◌, map, take}
use Rattle.rg_tree.specs.View.{expression, formula}
use Rattle.rgc_answers.specs.Equations.{equations}
use Rattle.rgc_answers.proofs.equations.push_equations.Given as goal

-- the equations so far
abbrev pub invariant-loop-word : goal.invariant-loop-word
invariant-loop-word l =
    map formula l.all.items ≡ map formula l.initial.all.items ++ equations (map expression (take l.word l.left)) (map expression (take l.word l.right))
