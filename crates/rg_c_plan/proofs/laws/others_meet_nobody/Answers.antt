use Rattle.rg_c_plan.proofs.Meeting.{others_meet_nobody, guarded_in_sections}
use Rattle.rg_c_plan.proofs.laws.others_meet_nobody.Goals as goal

pub returns-clause-others : goal.returns-clause-others
returns-clause-others c = others_meet_nobody

pub returns-clause-sections : goal.returns-clause-sections
returns-clause-sections c = guarded_in_sections
