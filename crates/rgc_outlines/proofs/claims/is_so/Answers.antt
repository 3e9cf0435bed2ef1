use Rattle.std.proofs.Common.{◌≡◌, ◌∙◌, sym, subst}
use Rattle.rg_tree.specs.Trees.{Proposition}
use Rattle.rg_tree.specs.View.{formula as view}
use Rattle.rgc_outlines.specs.Refuted.{IsFalseAt}
use Rattle.rgc_outlines.proofs.claims.is_so.Goals as goal

pub returns-in-Ok-clause-reported : goal.returns-in-Ok-clause-reported
returns-in-Ok-clause-reported c = λ so.
    let spells = rw c.deref.ensures.value at c.in-Ok.ensures.spells in
    let same : so.formula ≡ view c.in-Ok.formula = c.one_meaning.ensures.formula _ _ _ _ so.spells spells in
    c.is_false_at.ensures.reported (subst (λ (f : Proposition). IsFalseAt c.args.layout.now f c.args.claim.now) same so.is_false)

pub returns-in-Err-2-clause-reported : goal.returns-in-Err-2-clause-reported
returns-in-Err-2-clause-reported c = λ so.
    let memory = (rw c.deref.ensures.value at c.in-Err.ensures.accepts) so.formula so.spells in
    sym c.if-ran_out.false ∙ c.ran_out.ensures memory
