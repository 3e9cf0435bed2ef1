use Rattle.rg_hints.proofs.section.follow_between.Goals as goal

pub follow-requires-clause-copies : goal.follow-requires-clause-copies
follow-requires-clause-copies g c = c.loop-index.invariant.1
