use Rattle.rg_c_plan.proofs.Meeting.{steps_are_early}
use Rattle.rg_c_plan.proofs.laws.steps_are_early.Goals as goal

pub returns : goal.returns
returns c = steps_are_early
