use Rattle.std.proofs.Common.{◌≡◌, map, take}
use Rattle.rg_outline_meaning.specs.Members.{longer}
use Rattle.rg_outline_meaning.proofs.selected.longer.Given as goal

-- those so far
abbrev pub invariant-loop-indices : goal.invariant-loop-indices
invariant-loop-indices l = map (λ is. is.items) l.longer.items ≡ longer l.fn.range (map (λ is. is.items) (take l.indices-index l.all))
