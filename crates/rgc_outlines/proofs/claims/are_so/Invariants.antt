use Rattle.std.proofs.Common.{ℕ, ◌<◌, get_or}
use Rattle.rg_outline_reports.specs.declared.reports.Claim.{Claim}
use Rattle.rgc_outlines.specs.Refuted.{IsSo}
use Rattle.rgc_outlines.proofs.claims.are_so.Given as goal

abbrev pub invariant-loop-claim : goal.invariant-loop-claim
invariant-loop-claim l = (k : ℕ) (d : Claim) → k < l.claim-index → IsSo l.layout (get_or l.claims k d)
