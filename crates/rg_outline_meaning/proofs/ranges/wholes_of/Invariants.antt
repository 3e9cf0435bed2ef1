use Rattle.std.proofs.Common.{◌≡◌, map, take}
use Rattle.rg_outline_meaning.specs.Meanings.{whole}
use Rattle.rg_outline_meaning.specs.View.{meaning}
use Rattle.rg_outline_meaning.proofs.ranges.wholes_of.Given as goal

-- those so far are these numbers
abbrev pub invariant-loop-meaning : goal.invariant-loop-meaning
invariant-loop-meaning l = map meaning (take l.meaning-index l.meanings) ≡ map (λ z. whole z) l.numbers.items
