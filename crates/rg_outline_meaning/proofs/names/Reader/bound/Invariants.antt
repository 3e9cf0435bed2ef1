use Rattle.std.proofs.Common.{◌≢◌, map, take, All}
use Rattle.rg_outline_meaning.specs.Names.{text_of}
use Rattle.rg_outline_meaning.specs.View.{bound, outline}
use Rattle.rg_outline_meaning.proofs.names.Reader.bound.Given as goal

-- none so far has the name
abbrev pub invariant-loop-bound : goal.invariant-loop-bound
invariant-loop-bound l = All (λ b. b.name ≢ text_of (outline l.self) l.fn.name) (map (bound (outline l.self)) (take l.bound-index l.bound-items))
