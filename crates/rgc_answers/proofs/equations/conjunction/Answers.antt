use Rattle.rgc_answers.proofs.Equal.{joined_first, joined_step}
use Rattle.rgc_answers.proofs.equations.conjunction.Goals as goal

pub loop-before-init : goal.loop-before-init
loop-before-init c = joined_first _ _ _ c.in-Some.ensures.items

pub loop-before-preserved : goal.loop-before-preserved
loop-before-preserved c = joined_step _ _ _ _ _ _ c.in-Some-pop.ensures.items c.in_ok-whole.ensures c.loop-before.invariant
