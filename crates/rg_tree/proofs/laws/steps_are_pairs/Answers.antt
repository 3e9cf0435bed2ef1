use Rattle.rg_tree.proofs.Steps.{steps_are_pairs}
use Rattle.rg_tree.proofs.laws.steps_are_pairs.Goals as goal

pub returns : goal.returns
returns c = steps_are_pairs
