use Rattle.rg_c.proofs.questions.push_before.Goals as goal

pub returns-then-is_bare : goal.returns-then-is_bare
returns-then-is_bare c = rw (← c.is_bare.ensures, c.if-is_bare.true) c.push_code.ensures

pub returns : goal.returns
returns c = rw (← c.is_bare.ensures, c.if-is_bare.false, ← c.reads_loaded.ensures, ← c.entered-enter.ensures, ← c.left.ensures) c.push_code-2.ensures
