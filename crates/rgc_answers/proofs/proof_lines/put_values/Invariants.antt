use Rattle.std.proofs.Common.{◌≡◌, take}
use Rattle.rg_words.specs.Layout.{names_of}
use Rattle.serde_json.specs.View.{members_view}
use Rattle.rgc_answers.specs.States.{with_values}
use Rattle.rgc_answers.proofs.proof_lines.put_values.Given as goal

-- the first words have their values
abbrev pub invariant-loop-word : goal.invariant-loop-word
invariant-loop-word l = record {
  went : members_view l.map.entries ≡ with_values (take l.word (names_of l.words)) (take l.word l.state.values) (members_view l.initial.map.entries);
}
