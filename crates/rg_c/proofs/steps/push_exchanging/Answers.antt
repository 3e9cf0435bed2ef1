use Rattle.rg_c.proofs.steps.push_exchanging.Goals as goal

pub returns : goal.returns
returns c =
    rw (← c.in_ok-others.ensures, ← c.deref.ensures.value, ← c.in_ok-reads.ensures, c.deref.ensures.value, ← c.deref-3.ensures.value, ← c.deref-2.ensures.value)
    c.push_exchanged.ensures
