use Rattle.rg_runs.proofs.Words.{same_by_test}
use Rattle.rg_runs.proofs.step.same.Goals as goal

pub returns : goal.returns
returns c = same_by_test c.same.result c.args.first.now.values c.args.second.now.values c.same.ensures
