use Rattle.std.proofs.Common.{◌≢◌, map, take, All}
use Rattle.rg_outline_meaning.specs.Names.{text_of}
use Rattle.rg_outline_meaning.specs.View.{known, outline}
use Rattle.rg_outline_meaning.proofs.names.Reader.find.Given as goal

-- none so far has the name
abbrev pub invariant-loop-place : goal.invariant-loop-place
invariant-loop-place l = All (λ k. k.name ≢ text_of (outline l.self) l.fn.name) (map (known (outline l.self)) (take l.place l.all))
