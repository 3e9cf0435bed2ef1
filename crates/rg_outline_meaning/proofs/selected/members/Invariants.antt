use Rattle.std.proofs.Common.{◌≡◌, [], ◌∷◌, map, drop}
use Rattle.rg_outline_meaning.specs.Members.{members}
use Rattle.rg_outline_meaning.proofs.selected.members.Given as goal

-- with the ranges that are left they make all
abbrev pub invariant-loop-range : goal.invariant-loop-range
invariant-loop-range l = members (drop l.range-index l.ranges) (map (λ is. is.items) l.all.items) ≡ members l.ranges (l.given ∷ [])
