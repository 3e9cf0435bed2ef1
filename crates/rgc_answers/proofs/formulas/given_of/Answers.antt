use Rattle.std.proofs.Common.{◌≡◌, ◌∙◌, length, sym, ap, rules}
use Rattle.rg_tree.specs.ConditionTrees.{second_state}
use Rattle.rgc_answers.specs.Rows.{plain_row, before_row}
use Rattle.rgc_answers.proofs.Assigned.{counted, length-plain, length-before}
use Rattle.rgc_answers.proofs.formulas.given_of.Goals as goal

pub push_over-requires-clause-fit : goal.push_over-requires-clause-fit
push_over-requires-clause-fit c =
    let n = length c.args.c.now.layout in
    let plain : length c.in_ok-plain.plain.items ≡ n = counted c.in_ok-plain.plain.items (plain_row n) n (search rules) (length-plain n) in
    let hypotheses : c.as_slice.result.now ≡ c.args.c.now.hypotheses.items = c.as_slice.ensures.value in
    let count : length c.as_slice-2.result.now ≡ n = ap (λ l. length l) c.as_slice-2.ensures.value ∙ plain in
    rw (hypotheses, count) c.facts.ensures.fits.hypotheses

pub push_over-requires-clause-same : goal.push_over-requires-clause-same
push_over-requires-clause-same c =
    let n = length c.args.c.now.layout in
    let second = second_state c.args.c.now.second in
    let plain : length c.in_ok-plain.plain.items ≡ n = counted c.in_ok-plain.plain.items (plain_row n) n (search rules) (length-plain n) in
    let before : length c.in_ok-before.before.items ≡ n = counted c.in_ok-before.before.items (before_row second n) n (search rules) (length-before second n) in
    ap (λ l. length l) c.as_slice-3.ensures.value ∙ before ∙ sym plain ∙ sym (ap (λ l. length l) c.as_slice-2.ensures.value)
