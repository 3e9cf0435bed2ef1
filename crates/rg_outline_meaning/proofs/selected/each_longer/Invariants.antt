use Rattle.std.proofs.Common.{◌≡◌, [], ◌∷◌, ◌++◌, map, take}
use Rattle.rg_outline_meaning.proofs.selected.each_longer.Given as goal

-- those so far
abbrev pub invariant-loop-number : goal.invariant-loop-number
invariant-loop-number l = map (λ is. is.items) l.longer.items ≡ map (λ z. l.indices ++ z ∷ []) (take l.number-index l.numbers)
