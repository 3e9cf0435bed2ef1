use Rattle.std.proofs.Common.{take}
use Rattle.rg_outline_meaning.specs.Programs.{AreIndexRanges}
use Rattle.rg_outline_meaning.specs.View.{outline, words, knowns}
use Rattle.rg_outline_meaning.proofs.names.Reader.index_ranges.Given as goal

-- those so far
abbrev pub invariant-loop-index : goal.invariant-loop-index
invariant-loop-index l = AreIndexRanges (outline l.self) (words l.self) (knowns l.self) (take l.index-index l.index-items) l.ranges.items
