use Rattle.std.proofs.Common.{◌≢◌, map, take, All}
use Rattle.rg_tree.specs.View.{formula}
use Rattle.rg_outline_meaning.proofs.folded.has_equal.Given as goal

-- none of those so far equals it
abbrev pub invariant-loop-other : goal.invariant-loop-other
invariant-loop-other l = All (λ p. p ≢ formula l.formula) (map formula (take l.other-index l.formulas))
