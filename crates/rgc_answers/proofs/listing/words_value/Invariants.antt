use Rattle.std.proofs.Common.{◌≡◌, map, take}
use Rattle.serde_json.specs.View.{view}
use Rattle.rgc_answers.specs.Listing.{word_data}
use Rattle.rgc_answers.proofs.listing.words_value.Given as goal

abbrev pub invariant-loop-word : goal.invariant-loop-word
invariant-loop-word l = map view l.values.items ≡ map word_data (take l.word l.layout)
