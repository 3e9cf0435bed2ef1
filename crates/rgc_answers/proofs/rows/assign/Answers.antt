use Rattle.std.proofs.Common.{rules, ◌≡◌, ◌∙◌, ap, map, slice_set}
use Rattle.std.proofs.lemmas.List.{map-set}
use Rattle.rg_tree.specs.View.{expression}
use Rattle.rgc_answers.specs.Replaced.{expression_over}
use Rattle.rgc_answers.proofs.rows.assign.Goals as goal

pub returns-clause-row : goal.returns-clause-row
returns-clause-row c =
    let row = map expression c.args.row.now.items in
    let value : expression c.in_ok-value.value ≡ expression_over row row (expression c.args.a.now.value) = search rules in
    map-set expression c.args.row.now.items c.args.a.now.word c.in_ok-value.value ∙ ap (λ v. slice_set row c.args.a.now.word v) value
