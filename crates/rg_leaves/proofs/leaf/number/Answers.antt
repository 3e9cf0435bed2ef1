use Rattle.std.proofs.Common.{arith}
use Rattle.rg_leaves.proofs.Names.{no_less, no_more_digits}
use Rattle.rg_leaves.proofs.leaf.number.Goals as goal

pub returns-in_err-checked_mul : goal.returns-in_err-checked_mul
returns-in_err-checked_mul c = rw c.from_residual.ensures (λ small.
    let most = no_less c.loop-digit.number c.loop-digit.digit-index c.args.digits.now _ c.loop-digit-test.true c.loop-digit.invariant.number in
    c.in_err-checked_mul.ensures (omega (arith, most, small)))

pub returns-in_err-number : goal.returns-in_err-number
returns-in_err-number c = rw c.from_residual-in_err-number.ensures (λ small.
    let most = no_less c.loop-digit.number c.loop-digit.digit-index c.args.digits.now _ c.loop-digit-test.true c.loop-digit.invariant.number in
    c.in_err-number.ensures (omega (arith, most, small, c.in_ok-checked_mul.ensures, c.digit_value.ensures)))

pub returns : goal.returns
returns c =
    let same = no_more_digits c.loop-digit.number c.loop-digit.digit-index c.args.digits.now _ c.loop-digit-test.false c.loop-digit.invariant.number in
    (omega (arith, same, c.loop-digit.invariant.fits), same)
