use Rattle.std.proofs.Common.{◌≡◌, map, take}
use Rattle.rg_tree.specs.View.{formula}
use Rattle.rg_outline_meaning.specs.Meanings.{same_word}
use Rattle.rg_outline_meaning.proofs.names.Reader.same_words.Given as goal

-- the equations so far
abbrev pub invariant-loop-word : goal.invariant-loop-word
invariant-loop-word l = map formula l.equations.items ≡ map same_word (take l.word-index l.words)
