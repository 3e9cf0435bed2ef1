use Rattle.rg_c_plan.proofs.Meeting.{no_races, no_races_outside}
use Rattle.rg_c_plan.proofs.laws.no_races.Goals as goal

pub returns-clause-parts : goal.returns-clause-parts
returns-clause-parts c = no_races

pub returns-clause-outside : goal.returns-clause-outside
returns-clause-outside c = no_races_outside
