use Rattle.rg_c.proofs.steps.push_awaits.Goals as goal

pub returns : goal.returns
returns c = rw (← c.is_true.ensures) c.push_code.ensures
