use Rattle.std.proofs.Common.{◌≡◌, ◌++◌, map, take}
use Rattle.rg_tree.specs.View.{formula}
use Rattle.rgc_answers.specs.Inner.Formulas.{formulas_over}
use Rattle.rgc_answers.proofs.formulas.push_over.Given as goal

-- the hypotheses so far
abbrev pub invariant-loop-hypothesis : goal.invariant-loop-hypothesis
invariant-loop-hypothesis l =
    map formula l.all.items
    ≡ map formula l.initial.all.items ++ formulas_over l.plain l.primed (take l.hypothesis-index l.hypotheses)
