use Rattle.std.proofs.Common.{◌≡◌, drop}
use Rattle.rg_words.specs.Layout.{fixed_of}
use Rattle.rg_outline_meaning.specs.Programs.{first_changing}
use Rattle.rg_outline_meaning.specs.View.{words}
use Rattle.rg_outline_meaning.proofs.names.Reader.first_changing.Given as goal

-- none so far
abbrev pub invariant-loop-word : goal.invariant-loop-word
invariant-loop-word l = first_changing l.word (drop l.word (fixed_of (words l.self))) ≡ first_changing 0 (fixed_of (words l.self))
