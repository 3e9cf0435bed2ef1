-- Texts that are added one after another.
use Rattle.std.proofs.Common.{◌≡◌, ℕ, List, ◌++◌, ap, ◌∙◌, append_assoc}

-- two texts, of which the second may be all that follows
pub pushed_then : (old first second between after : List ℕ) → between ≡ old ++ first → after ≡ between ++ second → after ≡ old ++ (first ++ second)
pushed_then old first second between after e f = f ∙ ap (λ (t : List ℕ). t ++ second) e ∙ append_assoc old first second
