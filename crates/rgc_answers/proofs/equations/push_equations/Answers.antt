use Rattle.std.proofs.Common.{◌∙◌, ◌<◌, ◌++◌, length, map, take, ap, sym, append_assoc, arith}
use Rattle.rg_tree.specs.View.{expression, formula}
use Rattle.rgc_answers.specs.Equations.{equation, equations}
use Rattle.rgc_answers.proofs.Equal.{equations_taken}
use Rattle.rgc_answers.proofs.equations.push_equations.Goals as goal

pub loop-word-preserved : goal.loop-word-preserved
loop-word-preserved c =
    let left = c.args.left.now in
    let right = c.args.right.now in
    let i = c.loop-word.word in
    let small : i < length right = omega (arith, c.loop-word-test.true, c.requires) in
    let before = equations (map expression (take i left)) (map expression (take i right)) in
    let one = equation (expression c.index-left-word.result) (expression c.index-right-word.result) in
    c.in_ok-push_equation.ensures
    ∙ ap (λ l. l ++ one) c.loop-word.invariant
    ∙ append_assoc (map formula c.args.all.now.items) before one
    ∙ ap (λ l. map formula c.args.all.now.items ++ l)
    (sym (equations_taken left right i c.index-left-word.result c.index-right-word.result c.loop-word-test.true small c.index-left-word.is c.index-right-word.is))
