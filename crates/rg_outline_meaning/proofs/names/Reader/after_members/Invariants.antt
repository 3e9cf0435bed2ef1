use Rattle.std.proofs.Common.{◌≡◌, take}
use Rattle.rg_outline_meaning.specs.Reading.{ReadsSame, AreMembersOf}
use Rattle.rg_outline_meaning.specs.View.{outline, words, knowns}
use Rattle.rg_outline_meaning.proofs.names.Reader.after_members.Given as goal

-- the members so far
abbrev pub invariant-loop-number : goal.invariant-loop-number
invariant-loop-number l = ReadsSame l.fn.self l.self × (knowns l.self ≡ knowns l.fn.self) × AreMembersOf (outline l.fn.self) (words l.fn.self) (knowns l.fn.self) l.written l.fn.index (take l.number-index l.numbers) l.parts l.fn.first l.place
