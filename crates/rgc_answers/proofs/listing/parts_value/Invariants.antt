use Rattle.std.proofs.Common.{◌≡◌, map, take}
use Rattle.serde_json.specs.View.{view}
use Rattle.rgc_answers.specs.Listing.{part_data}
use Rattle.rgc_answers.proofs.listing.parts_value.Given as goal

abbrev pub invariant-loop-part : goal.invariant-loop-part
invariant-loop-part l = map view l.values.items ≡ map part_data (take l.part-index l.parts)
