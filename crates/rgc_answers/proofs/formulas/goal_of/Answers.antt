use Rattle.std.proofs.Common.{◌≡◌, ◌∙◌, length, sym, ap, rules}
use Rattle.rg_tree.specs.ConditionTrees.{second_state}
use Rattle.rgc_answers.specs.Rows.{plain_row, second_row}
use Rattle.rgc_answers.proofs.Assigned.{counted, length-plain, length-second}
use Rattle.rgc_answers.proofs.formulas.goal_of.Goals as goal

pub goal_over-requires-clause-fits : goal.goal_over-requires-clause-fits
goal_over-requires-clause-fits c =
    let n = length c.args.c.now.layout in
    let plain : length c.in_ok-plain.plain.items ≡ n = counted c.in_ok-plain.plain.items (plain_row n) n (search rules) (length-plain n) in
    let count : length c.as_slice.result.now ≡ n = ap (λ l. length l) c.as_slice.ensures.value ∙ plain in
    rw count c.facts.ensures.fits.goal

pub goal_over-requires-clause-same : goal.goal_over-requires-clause-same
goal_over-requires-clause-same c =
    let n = length c.args.c.now.layout in
    let second = second_state c.args.c.now.second in
    let plain : length c.in_ok-plain.plain.items ≡ n = counted c.in_ok-plain.plain.items (plain_row n) n (search rules) (length-plain n) in
    let other : length c.in_ok-second.second.items ≡ n = counted c.in_ok-second.second.items (second_row second n) n (search rules) (length-second second n) in
    ap (λ l. length l) c.as_slice-2.ensures.value ∙ other ∙ sym plain ∙ sym (ap (λ l. length l) c.as_slice.ensures.value)
