use Rattle.std.proofs.Common.{◌≡◌, take}
use Rattle.rg_erase.specs.Erased.{staying}
use Rattle.rg_erase.proofs.words.words_without.Given as goal

-- the words so far that stay
abbrev pub invariant-loop-word : goal.invariant-loop-word
invariant-loop-word l = l.words ≡ staying l.erased (take l.word l.layout)
