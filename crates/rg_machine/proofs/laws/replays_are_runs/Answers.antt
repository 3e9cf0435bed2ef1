use Rattle.rg_machine.proofs.EventRuns.{replays_are_runs}
use Rattle.rg_machine.proofs.laws.replays_are_runs.Goals as goal

pub returns : goal.returns
returns c = replays_are_runs
