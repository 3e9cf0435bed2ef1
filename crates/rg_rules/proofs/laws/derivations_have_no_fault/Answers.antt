use Rattle.rg_rules.proofs.Demands.{no_fault}
use Rattle.rg_rules.proofs.laws.derivations_have_no_fault.Goals as goal

pub returns : goal.returns
returns c = no_fault
