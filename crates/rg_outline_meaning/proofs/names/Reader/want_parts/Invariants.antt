use Rattle.std.proofs.Common.{◌≡◌, List, ◌++◌, map, drop, take}
use Rattle.rg_tree.specs.Statements.{PartTree}
use Rattle.rg_tree.specs.ProgramView.{part}
use Rattle.rg_outline_meaning.specs.Programs.{PartsStandFor}
use Rattle.rg_outline_meaning.specs.Reading.{ReadsSame}
use Rattle.rg_outline_meaning.specs.View.{outline, words, knowns}
use Rattle.rg_outline_meaning.proofs.names.Reader.want_parts.Given as goal

-- the parts so far, before what those that are left stand for
abbrev pub invariant-loop-written : goal.invariant-loop-written
invariant-loop-written l = ReadsSame l.fn.self l.self × (knowns l.self ≡ knowns l.fn.self) × ((ts : List PartTree) → PartsStandFor (outline l.fn.self) (words l.fn.self) (knowns l.fn.self) (drop l.written-index l.written-items) ts → PartsStandFor (outline l.fn.self) (words l.fn.self) (knowns l.fn.self) l.written-items (take l.place (map part l.parts) ++ ts))
