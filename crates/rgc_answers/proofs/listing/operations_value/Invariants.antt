use Rattle.std.proofs.Common.{◌≡◌, map, take}
use Rattle.serde_json.specs.Data.{string}
use Rattle.serde_json.specs.View.{view}
use Rattle.rgc_answers.specs.Listing.{operation_text}
use Rattle.rgc_answers.proofs.listing.operations_value.Given as goal

abbrev pub invariant-loop-operation : goal.invariant-loop-operation
invariant-loop-operation l = map view l.texts.items ≡ map (λ o. string (operation_text o)) (take l.operation-index l.operations)
