use Rattle.std.proofs.Common.{◌-◌, length, arith}
use Rattle.rg_bits.proofs.Values.{row_next-limit}
use Rattle.rg_bits.proofs.decode.row_number.Goals as goal

pub overflow_mul-number : goal.overflow_mul-number
overflow_mul-number c =
    let l = c.loop-i in
    omega (arith, row_next-limit c.args.values.now c.args.row.now l.i (length c.args.row.now - 1 - l.i) l.number (omega arith) (omega arith) l.invariant c.requires)

pub overflow_add-number : goal.overflow_add-number
overflow_add-number c =
    let l = c.loop-i in
    rw c.bit_of.ensures
    (omega (arith, row_next-limit c.args.values.now c.args.row.now l.i (length c.args.row.now - 1 - l.i) l.number (omega arith) (omega arith) l.invariant c.requires))
