use Rattle.std.proofs.Common.{◌≡◌, map, take}
use Rattle.serde_json.specs.View.{view}
use Rattle.rg_code.specs.BlockView.{store}
use Rattle.rgc_answers.specs.Listing.{store_data}
use Rattle.rgc_answers.proofs.listing.stores_value.Given as goal

abbrev pub invariant-loop-store : goal.invariant-loop-store
invariant-loop-store l = map view l.stores.items ≡ map store_data (map store (take l.store-index l.act))
