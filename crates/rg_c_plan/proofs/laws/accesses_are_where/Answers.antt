use Rattle.rg_c_plan.proofs.Where.{accesses_are_where}
use Rattle.rg_c_plan.proofs.laws.accesses_are_where.Goals as goal

pub returns : goal.returns
returns c = accesses_are_where
