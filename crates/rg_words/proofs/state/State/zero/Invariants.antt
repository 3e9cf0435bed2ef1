use Rattle.std.proofs.Common.{◌≡◌, take}
use Rattle.rg_words.specs.Layout.{widths_of}
use Rattle.rg_words.proofs.state.State.zero.Given as goal

-- the widths so far
abbrev pub invariant-loop-word : goal.invariant-loop-word
invariant-loop-word l = l.widths.items ≡ take l.word (widths_of l.layout)
