use Rattle.rg_floor.proofs.Readiness.{ready_means_steps}
use Rattle.rg_floor.proofs.laws.ready_means_steps.Goals as goal

pub returns : goal.returns
returns c = ready_means_steps
