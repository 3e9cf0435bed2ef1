use Rattle.rg_accept.proofs.Standing.{assertions_hold}
use Rattle.rg_accept.proofs.laws.assertions_hold.Goals as goal

pub returns : goal.returns
returns c = assertions_hold
