use Rattle.std.proofs.Common.{append_assoc}
use Rattle.rg_c.proofs.steps.push_bare.Goals as goal

pub returns : goal.returns
returns c = rw (← c.in_ok-reads.ensures, ← c.deref.ensures.value, ← append_assoc, ← c.in_ok-push_awaits.ensures) c.push_code.ensures
