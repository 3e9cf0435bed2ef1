use Rattle.std.proofs.Common.{List, subst, sym}
use Rattle.std.specs.Prelude.{IsTrue}
use Rattle.rg_outline_reports.specs.declared.reports.Claim.{Claim}
use Rattle.rgc_outlines.specs.Refuted.{AreSo}
use Rattle.rgc_outlines.proofs.claims.confirmed.Goals as goal

pub returns-else-branch-clause-reported : goal.returns-else-branch-clause-reported
returns-else-branch-clause-reported c = λ so.
    let claims : AreSo c.args.layout.now c.deref.result.now = subst (λ (cs : List Claim). AreSo c.args.layout.now cs) (sym c.deref.ensures.value) so in
    subst (λ b. IsTrue b) c.if-branch.false (c.in_ok-are_so.ensures.reported claims)
