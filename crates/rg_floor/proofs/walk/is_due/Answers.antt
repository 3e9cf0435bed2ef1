use Rattle.std.proofs.Common.{inl, inr}
use Rattle.rg_floor.proofs.walk.is_due.Goals as goal

pub returns-clause-reported : goal.returns-clause-reported
returns-clause-reported c = λ t. inr (inl (c.none_can_step.ensures.reported t))
