use Rattle.std.proofs.Common.{◌∙◌, ap, sym, subst, [], ◌∷◌}
use Rattle.rg_tree.specs.ConditionTrees.{assignment, AssignmentsFit}
use Rattle.rgc_answers.specs.Rows.{plain_row, assigned_row}
use Rattle.rgc_answers.proofs.Assigned.{fits_at, assigned_taken, counted, length-plain}
use Rattle.rgc_answers.proofs.rows.assigned_row.Goals as goal

pub loop-a-init : goal.loop-a-init
loop-a-init c = record {
  row = c.in_ok-row.ensures;
  count = counted c.in_ok-row.row.items (plain_row c.args.count) c.args.count c.in_ok-row.ensures (length-plain c.args.count);
}

pub assign-requires : goal.assign-requires
assign-requires c =
    subst (λ n. AssignmentsFit (assignment c.a-item.result ∷ []) n) (sym c.loop-a.invariant.count)
    (fits_at c.args.act.now c.args.count c.loop-a.a-index c.a-item.result c.requires c.loop-a-test.true c.a-item.is)

pub loop-a-preserved : goal.loop-a-preserved
loop-a-preserved c =
    let row = c.in_ok-assign.ensures.row in
    record {
      row = row ∙ ap (λ r. assigned_row (assignment c.a-item.result ∷ []) r) c.loop-a.invariant.row
          ∙ sym (assigned_taken c.args.act.now c.loop-a.a-index c.a-item.result (plain_row c.args.count) c.loop-a-test.true c.a-item.is);
      count = c.in_ok-assign.ensures.count ∙ c.loop-a.invariant.count;
    }
