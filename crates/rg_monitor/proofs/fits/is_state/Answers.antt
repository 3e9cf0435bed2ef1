use Rattle.std.proofs.Common.{refl, arith}
use Rattle.rg_monitor.proofs.Words.{state_length, state_from, no_state}
use Rattle.rg_monitor.proofs.fits.is_state.Goals as goal

pub returns-then-len : goal.returns-then-len
returns-then-len c =
    (λ h. absurd (cc h), λ h. absurd (omega (arith, state_length c.args.layout.now c.args.state.now.values h, c.len.ensures.count, c.len-2.ensures.count, c.if-len.true)))

pub returns-then-from-width : goal.returns-then-from-width
returns-then-from-width c =
    (λ h. absurd (cc h), no_state c.args.layout.now c.args.state.now.values c.loop-word.word _ _ _ (omega arith) c.get.ensures.exact c.from.ensures c.width.ensures.exact c.width.ensures.range.1 c.if-from-width.true)

pub returns : goal.returns
returns c =
    (λ _. state_from c.args.layout.now c.args.state.now.values (omega arith) (λ i lt. c.loop-word.invariant i (omega arith)), λ _. refl)
