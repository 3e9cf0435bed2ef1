use Rattle.std.proofs.Common.{◌≢◌, map, take, All}
use Rattle.rg_outline_meaning.specs.Names.{text_of}
use Rattle.rg_outline_meaning.specs.View.{outline}
use Rattle.rg_outline_meaning.proofs.names.Reader.want_others.Given as goal

-- none so far has the name
abbrev pub invariant-loop-other : goal.invariant-loop-other
invariant-loop-other l = All (λ other. other ≢ text_of (outline l.self) l.fn.name) (map (text_of (outline l.self)) (take l.other-index l.others))
