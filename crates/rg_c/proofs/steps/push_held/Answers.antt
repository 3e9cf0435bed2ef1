use Rattle.rg_c.proofs.steps.push_held.Goals as goal

pub returns-then-is_true : goal.returns-then-is_true
returns-then-is_true c = rw (← c.is_true.ensures, c.if-is_true.true) c.push_free.ensures

pub returns : goal.returns
returns c = rw (← c.is_true.ensures, c.if-is_true.false, ← c.entered-enter.ensures, ← c.left-leave.ensures, ← c.if_done-made.ensures) c.push_tried.ensures
