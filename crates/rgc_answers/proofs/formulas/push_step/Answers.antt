use Rattle.std.proofs.Common.{◌≡◌, ◌∙◌, length, map, sym, ap, rules}
use Rattle.rg_tree.specs.ConditionTrees.{assignment}
use Rattle.rgc_answers.specs.Rows.{plain_row, assigned_row, moved_row}
use Rattle.rgc_answers.proofs.Assigned.{counted, length-plain, length-assigned, length-moved}
use Rattle.rgc_answers.proofs.formulas.push_step.Goals as goal

pub push_equations-requires : goal.push_equations-requires
push_equations-requires c =
    let n = c.args.count in
    let act = map assignment c.in-After.act.items in
    let moved : length c.in_ok-moved.moved.items ≡ n = counted c.in_ok-moved.moved.items (moved_row act (plain_row n)) n (search rules) (length-moved act (plain_row n) ∙ length-plain n) in
    let assigned : length c.in_ok-assigned.assigned.items ≡ n = counted c.in_ok-assigned.assigned.items (assigned_row act (plain_row n)) n (search rules) (length-assigned act (plain_row n) ∙ length-plain n) in
    ap (λ l. length l) c.as_slice-in-After-3.ensures.value ∙ assigned ∙ sym moved ∙ sym (ap (λ l. length l) c.as_slice-in-After-2.ensures.value)
