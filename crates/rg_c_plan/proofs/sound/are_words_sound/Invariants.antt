use Rattle.std.proofs.Common.{◌≡◌, ◌-◌, length}
use Rattle.std.specs.List.{list_all, range_with_len}
use Rattle.rg_tree.specs.ProgramTrees.{program as program_tree}
use Rattle.rg_c_plan.specs.Ways.{kind_at}
use Rattle.rg_c_plan.specs.Inner.Tests.{is_word_sound, are_words_sound}
use Rattle.rg_c_plan.proofs.sound.are_words_sound.Given as goal

-- those so far are
abbrev pub invariant-loop-word : goal.invariant-loop-word
invariant-loop-word l =
    list_all (λ k. is_word_sound (program_tree l.program) (kind_at l.kinds k) k) (range_with_len l.word (length l.kinds - l.word))
    ≡ are_words_sound (program_tree l.program) l.kinds
