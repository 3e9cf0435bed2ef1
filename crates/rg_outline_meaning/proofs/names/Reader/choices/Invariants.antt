use Rattle.std.proofs.Common.{map, take, filter}
use Rattle.rg_outline_meaning.specs.Names.{text_of}
use Rattle.rg_outline_meaning.specs.Members.{fits}
use Rattle.rg_outline_meaning.specs.Inner.{AreCandidatesAt}
use Rattle.rg_outline_meaning.specs.View.{outline, words, candidate}
use Rattle.rg_outline_meaning.proofs.names.Reader.choices.Given as goal

-- those so far
abbrev pub invariant-loop-number : goal.invariant-loop-number
invariant-loop-number l = AreCandidatesAt (words l.self) (text_of (outline l.self) l.fn.name) l.fn.indices l.fn.place (filter (fits l.fn.width) (take l.number-index l.numbers)) (map candidate l.members.items)
