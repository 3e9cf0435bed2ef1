use Rattle.rg_floor.proofs.Meant.{histories_are_runs, steps_are_covered, ends_are_in_post}
use Rattle.rg_floor.proofs.laws.legal_floors.Goals as goal

pub returns-clause-runs : goal.returns-clause-runs
returns-clause-runs c = histories_are_runs

pub returns-clause-covered : goal.returns-clause-covered
returns-clause-covered c = steps_are_covered

pub returns-clause-ended : goal.returns-clause-ended
returns-clause-ended c = ends_are_in_post
