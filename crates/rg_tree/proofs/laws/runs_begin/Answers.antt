use Rattle.rg_tree.proofs.Beginnings.{beginning, one_flag}
use Rattle.rg_tree.proofs.laws.runs_begin.Goals as goal

pub returns-clause-runs : goal.returns-clause-runs
returns-clause-runs c = beginning

pub returns-clause-flags : goal.returns-clause-flags
returns-clause-flags c = one_flag
