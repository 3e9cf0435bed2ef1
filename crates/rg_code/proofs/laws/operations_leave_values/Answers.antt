use Rattle.rg_code.proofs.Operations.{operations_leave_values}
use Rattle.rg_code.proofs.laws.operations_leave_values.Goals as goal

pub returns : goal.returns
returns c = operations_leave_values
