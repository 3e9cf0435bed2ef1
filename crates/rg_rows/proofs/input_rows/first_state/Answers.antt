use Rattle.std.proofs.Common.{◌++◌, sym, ap, ◌∙◌, arith}
use Rattle.rg_rows.specs.Within.{rows_of}
use Rattle.rg_rows.specs.Inputs.{first_rows, total_width}
use Rattle.rg_rows.proofs.InputRows.{rows_of-nil, first-turn, total_next}
use Rattle.rg_rows.proofs.input_rows.first_state.Goals as goal

pub loop-k-init : goal.loop-k-init
loop-k-init c = record {
  rows = sym (ap (λ xs. rows_of xs ++ first_rows 0 c.args.words.now) c.new-rows.ensures.items ∙ ap (λ xs. xs ++ first_rows 0 c.args.words.now) rows_of-nil);
  width = omega arith;
}

pub loop-k-preserved : goal.loop-k-preserved
loop-k-preserved c =
    let l = c.loop-k in
    let words = c.args.words.now in
    record {
      rows = rw c.in_ok-push.ensures.items (first-turn words l.rows.items c.in_ok-row.row 0 l.after l.k c.width-width.result (omega arith) c.width-width.ensures.exact l.invariant.rows c.in_ok-row.ensures.items);
      width = omega (arith, c.width-width.ensures.exact, total_next words l.k l.after (total_width words) (omega arith) l.invariant.width);
    }
