use Rattle.std.proofs.Common.{◌≡◌, Some, vec_len}
use Rattle.rg_pool.proofs.DealSteps.{AreParts, AreKept}
use Rattle.rg_pool.proofs.dealing.deal.Given as goal

-- what is put so far are answers, and so is what is left
abbrev pub invariant-loop-part : goal.invariant-loop-part
invariant-loop-part g l = record {
  len : vec_len l.places ≡ l.count;
  each : AreKept (λ i x. goal.F-post g l.f i (Some x)) l.count l.places.items;
  left : AreParts (λ i x. goal.F-post g l.f i (Some x)) l.count l.parts.items;
}

abbrev pub decreases-loop-part : goal.decreases-loop-part
decreases-loop-part g l = vec_len l.parts
