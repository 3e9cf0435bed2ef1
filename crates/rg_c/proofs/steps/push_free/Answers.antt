use Rattle.rg_c.proofs.steps.push_free.Goals as goal

pub returns : goal.returns
returns c = rw (← c.entered-enter.ensures, ← c.left-leave.ensures) c.push_code.ensures
