use Rattle.std.proofs.Common.{map, take}
use Rattle.rg_outline_meaning.specs.Names.{text_of}
use Rattle.rg_outline_meaning.specs.Members.{AreMembers}
use Rattle.rg_outline_meaning.specs.View.{outline, words}
use Rattle.rg_outline_meaning.proofs.names.Reader.words_at.Given as goal

-- those so far
abbrev pub invariant-loop-indices : goal.invariant-loop-indices
invariant-loop-indices l = AreMembers (words l.self) (text_of (outline l.self) l.fn.name) (map (λ is. is.items) (take l.indices-index l.all)) l.words.items
