use Rattle.rg_c.proofs.steps.push_attempted.Goals as goal

pub returns : goal.returns
returns c = c.push_code.ensures
