use Rattle.std.proofs.lemmas.List.{length-map}
use Rattle.rg_c.proofs.steps.push_held_step.Goals as goal

pub returns : goal.returns
returns c = rw (← c.in_ok-reads.ensures, ← c.deref.ensures.value, length-map) c.push_held.ensures
