use Rattle.std.proofs.Common.{◌≡◌, take}
use Rattle.std.specs.Prelude.{string_bytes}
use Rattle.rgc_answers.specs.Blocks.{words_text}
use Rattle.rgc_answers.proofs.blocks.words_text.Given as goal

-- the words so far
abbrev pub invariant-loop-word : goal.invariant-loop-word
invariant-loop-word l = string_bytes l.text ≡ words_text (take l.word l.layout)
