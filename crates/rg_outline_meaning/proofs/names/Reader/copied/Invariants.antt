use Rattle.std.proofs.Common.{◌≡◌, map, take}
use Rattle.rg_outline_meaning.specs.View.{bound, outline}
use Rattle.rg_outline_meaning.proofs.names.Reader.copied.Given as goal

-- those so far are copied
abbrev pub invariant-loop-one : goal.invariant-loop-one
invariant-loop-one l = map (bound (outline l.self)) l.bound.items ≡ map (bound (outline l.self)) (take l.one-index l.one-items)
