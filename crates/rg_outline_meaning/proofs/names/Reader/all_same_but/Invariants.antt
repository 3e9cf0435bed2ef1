use Rattle.std.proofs.Common.{ℕ, List, ◌++◌, drop}
use Rattle.rg_words.specs.Layout.{fixed_of}
use Rattle.rg_outline_meaning.specs.Expressions.{AreOthers}
use Rattle.rg_outline_meaning.specs.View.{words}
use Rattle.rg_outline_meaning.proofs.names.Reader.all_same_but.Given as goal

-- those so far, before the others of the words that are left
abbrev pub invariant-loop-word : goal.invariant-loop-word
invariant-loop-word l = (ks : List ℕ) → AreOthers l.but l.word-counter (drop l.word-counter (fixed_of (words l.self))) ks → AreOthers l.but 0 (fixed_of (words l.self)) (l.others.items ++ ks)
