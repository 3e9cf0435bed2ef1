use Rattle.std.proofs.Common.{◌≡◌, ◌++◌, take}
use Rattle.std.specs.Prelude.{string_bytes}
use Rattle.rg_words.specs.Layout.{names_of}
use Rattle.rgc.specs.Failures.{values_text}
use Rattle.rgc.proofs.failures.push_state.Given as goal

-- the title and the first words went out
abbrev pub invariant-loop-word : goal.invariant-loop-word
invariant-loop-word l = record {
  went : string_bytes l.text ≡ string_bytes l.initial.text ++ values_text (take l.word (names_of l.words)) (take l.word l.state.values);
}
