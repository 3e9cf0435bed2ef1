use Rattle.rg_code.proofs.LegalSteps.{block_steps_are_pairs}
use Rattle.rg_code.proofs.laws.block_steps_are_pairs.Goals as goal

pub returns : goal.returns
returns c = block_steps_are_pairs
