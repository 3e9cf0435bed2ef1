use Rattle.rg_c.proofs.TogetherRight as right
use Rattle.rg_c.proofs.laws.stores_are_together.Goals as goal

pub returns : goal.returns
returns c = right.stores_are_together
