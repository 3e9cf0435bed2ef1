use Rattle.std.proofs.Common.{◌≡◌, map, take}
use Rattle.serde_json.specs.View.{view}
use Rattle.rg_words.specs.Layout.{names_of}
use Rattle.rgc_answers.specs.Records.{words_data}
use Rattle.rgc_answers.proofs.records.words_value.Given as goal

-- the first words are there
abbrev pub invariant-loop-word : goal.invariant-loop-word
invariant-loop-word l = map view l.values.items ≡ words_data (take l.word (names_of l.layout)) (take l.word l.before.values) (take l.word l.after.values)
