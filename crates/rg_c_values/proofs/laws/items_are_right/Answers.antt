use Rattle.rg_c_values.proofs.ItemsRight.{items_are_right}
use Rattle.rg_c_values.proofs.laws.items_are_right.Goals as goal

pub returns : goal.returns
returns c = items_are_right
