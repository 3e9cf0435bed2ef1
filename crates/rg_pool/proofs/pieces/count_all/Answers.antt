use Rattle.std.proofs.Common.{◌-◌, ◌<◌, length, arith}
use Rattle.rg_pool.proofs.EmptySteps.{number_above}
use Rattle.rg_pool.proofs.pieces.count_all.Goals as goal

-- the number of the last line has 32 bits
pub overflow_add-result : goal.overflow_add-result
overflow_add-result c =
    let s = c.args.lines.now in
    let n = c.len-count.result in
    let small : n - 1 < length s.lines = omega (arith, c.len-count.ensures.value, c.requires.some) in
    let above = number_above s c.len-count.ensures.section (n - 1) small in
    omega (arith, above, c.id-greatest.ensures, c.id-greatest.type_inv, c.len-count.ensures.value, c.len.ensures.value, c.requires.given, c.requires.some)
