use Rattle.std.proofs.Common.{◌++◌, ◌+◌, sym, ap, ◌∙◌, arith}
use Rattle.rg_rows.specs.Within.{rows_of}
use Rattle.rg_rows.specs.Inputs.{free_rows, free_width, total_width}
use Rattle.rg_rows.proofs.InputRows.{rows_of-nil, free-turn, free_next}
use Rattle.rg_rows.proofs.RowsOf.{row_at, drop_row, length-rows_of}
use Rattle.rg_rows.proofs.input_rows.free_state.Goals as goal

pub loop-k-init : goal.loop-k-init
loop-k-init c =
    let words = c.args.words.now in
    let rest = free_rows (total_width words) words (rows_of c.args.first.now) in
    record {
      rows = rw c.all_bits-after.ensures.count (sym (ap (λ xs. rows_of xs ++ rest) c.new-rows.ensures.items ∙ ap (λ xs. xs ++ rest) rows_of-nil));
      width = omega arith;
    }

pub loop-k-preserved : goal.loop-k-preserved
loop-k-preserved c =
    let l = c.loop-k in
    let words = c.args.words.now in
    let firsts = rows_of c.args.first.now in
    let at = row_at c.args.first.now l.k c.index-first-k.result c.deref.result.now (omega arith) c.index-first-k.is c.deref.ensures.value in
    let member = drop_row firsts l.k c.deref.result.now (omega (arith, length-rows_of c.args.first.now)) at in
    let bits = c.free_bits-after.ensures in
    record {
      rows = rw (c.in_ok-push.ensures.items, bits) (rw (c.width.ensures.exact, c.is_fixed.ensures) at (free-turn words firsts c.deref.result.now l.rows.items c.in_ok-row.row (total_width c.args.words.now) l.after l.k c.width.result c.is_fixed.result (omega arith) c.width.ensures.exact c.is_fixed.ensures member l.invariant.rows c.in_ok-row.ensures.items));
      width = omega (arith, bits, free_next words l.k l.after (total_width c.args.words.now + free_width words) (omega arith) l.invariant.width);
    }
