use Rattle.std.proofs.Common.{◌≡◌, take}
use Rattle.rg_words.proofs.layout.Layout.same.Given as goal

-- the words so far are the same
abbrev pub invariant-loop-word : goal.invariant-loop-word
invariant-loop-word l = take l.word l.self ≡ take l.word l.other
