use Rattle.std.proofs.Common.{◌≡◌, ◌+◌, drop}
use Rattle.rg_erase.specs.Erased.{first_free}
use Rattle.rg_erase.proofs.words.first_free.Given as goal

-- the words so far are fixed
abbrev pub invariant-loop-word : goal.invariant-loop-word
invariant-loop-word l = l.word + first_free (drop l.word l.layout) ≡ first_free l.layout
