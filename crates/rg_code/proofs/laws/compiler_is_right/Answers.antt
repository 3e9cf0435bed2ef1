use Rattle.rg_code.proofs.Views.{compiler_is_right}
use Rattle.rg_code.proofs.laws.compiler_is_right.Goals as goal

pub returns : goal.returns
returns c = compiler_is_right
