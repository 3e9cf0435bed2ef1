use Rattle.rg_words.proofs.Values.{length-AreValues}
use Rattle.rg_words.proofs.state.State.len.Goals as goal

pub returns-clause-widths : goal.returns-clause-widths
returns-clause-widths c = rw (← c.self.view_is) (length-AreValues _ _ c.self.invariant)
