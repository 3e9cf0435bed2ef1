use Rattle.rg_par.proofs.Parallel.{parallel_rule}
use Rattle.rg_par.proofs.laws.parallel_rule.Goals as goal

pub returns : goal.returns
returns c = parallel_rule
