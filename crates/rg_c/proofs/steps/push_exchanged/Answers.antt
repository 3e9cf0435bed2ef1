use Rattle.rg_c.proofs.steps.push_exchanged.Goals as goal

pub returns-then-is_true : goal.returns-then-is_true
returns-then-is_true c = rw (← c.is_true.ensures, c.if-is_true.true) c.push_attempted.ensures

pub returns : goal.returns
returns c = rw (← c.is_true.ensures, c.if-is_true.false) c.push_attempted-2.ensures
