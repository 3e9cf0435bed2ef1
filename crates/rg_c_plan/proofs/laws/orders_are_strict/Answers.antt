use Rattle.rg_c_plan.proofs.Orders.{orders_are_strict}
use Rattle.rg_c_plan.proofs.laws.orders_are_strict.Goals as goal

pub returns : goal.returns
returns c = orders_are_strict
