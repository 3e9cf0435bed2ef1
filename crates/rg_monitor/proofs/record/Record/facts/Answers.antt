use Rattle.std.proofs.Common.{List, ℕ, subst}
use Rattle.rg_words.specs.States.{AreValues}
use Rattle.rg_monitor.proofs.record.Record.facts.Goals as goal

pub returns : goal.returns
returns c =
    let r = c.self.inside in
    let after = subst (λ (widths : List ℕ). AreValues widths r.after.values) c.self.invariant c.facts-2.ensures.state in
    rw (← c.self.view_is) (r.before.widths, c.facts.ensures.state, after)
