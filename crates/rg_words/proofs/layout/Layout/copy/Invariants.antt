use Rattle.std.proofs.Common.{◌≡◌, take}
use Rattle.rg_words.proofs.layout.Layout.copy.Given as goal

-- the words so far
abbrev pub invariant-loop-word : goal.invariant-loop-word
invariant-loop-word l = l.copy ≡ take l.word l.self
