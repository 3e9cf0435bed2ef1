use Rattle.rg_c_plan.proofs.Meeting.{steps_are_one_access}
use Rattle.rg_c_plan.proofs.laws.steps_are_one_access.Goals as goal

pub returns : goal.returns
returns c = steps_are_one_access
