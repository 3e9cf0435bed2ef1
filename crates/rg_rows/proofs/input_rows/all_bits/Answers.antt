use Rattle.std.proofs.Common.{arith}
use Rattle.rg_rows.specs.Inputs.{total_width}
use Rattle.rg_rows.proofs.InputRows.{total_next, total_limit}
use Rattle.rg_rows.proofs.input_rows.all_bits.Goals as goal

pub overflow_add-bits : goal.overflow_add-bits
overflow_add-bits c =
    let l = c.loop-k in
    let words = c.args.words.now in
    omega (arith, c.width-bits.ensures.exact, total_next words l.k l.bits (total_width words) (omega arith) l.invariant, total_limit words c.len-k-end.ensures.layout)

pub loop-k-preserved : goal.loop-k-preserved
loop-k-preserved c =
    let l = c.loop-k in
    let words = c.args.words.now in
    omega (arith, c.width-bits.ensures.exact, total_next words l.k l.bits (total_width words) (omega arith) l.invariant)
