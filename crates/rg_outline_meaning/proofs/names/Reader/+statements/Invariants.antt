use Rattle.std.proofs.Common.{◌≡◌, ◌+◌, ◌*◌, map, take}
use Rattle.rg_tree.specs.ProgramView.{statement}
use Rattle.rg_outline_meaning.specs.Names.{text_of}
use Rattle.rg_outline_meaning.specs.Statements.{ItemsStandFor, RoundsStandFor}
use Rattle.rg_outline_meaning.specs.View.{outline, words, names}
use Rattle.rg_outline_meaning.proofs.names.Reader.+statements.Given as goal

-- each call of `item` within one goes one deeper, and the others lead to one
abbrev pub decreases-items : goal.decreases-items
decreases-items l = l.depth * 10 + 0

abbrev pub decreases-block : goal.decreases-block
decreases-block l = l.depth * 10 + 1

abbrev pub decreases-rounds : goal.decreases-rounds
decreases-rounds l = l.depth * 10 + 1

abbrev pub decreases-use_of : goal.decreases-use_of
decreases-use_of l = l.depth * 10 + 1

abbrev pub decreases-statement : goal.decreases-statement
decreases-statement l = l.depth * 10 + 2

abbrev pub decreases-item : goal.decreases-item
decreases-item l = l.depth * 10 + 3

-- those so far
abbrev pub invariant-items-loop-index : goal.invariant-items-loop-index
invariant-items-loop-index l = ItemsStandFor (outline l.self) (words l.self) l.waiting_word (names l.self l.names) (take l.index-index l.index-items) (map statement l.statements.items)

-- the rounds so far, and the names as they were
abbrev pub invariant-rounds-loop-number : goal.invariant-rounds-loop-number
invariant-rounds-loop-number l = (names l.self l.inner ≡ names l.self l.names) × RoundsStandFor (outline l.self) (words l.self) l.waiting_word (names l.self l.names) (text_of (outline l.self) l.index) l.body (take l.number-index l.number-items) (map statement l.statements.items)
