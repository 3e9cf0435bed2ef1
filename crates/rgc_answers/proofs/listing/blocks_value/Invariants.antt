use Rattle.std.proofs.Common.{◌≡◌, map, take}
use Rattle.serde_json.specs.View.{view}
use Rattle.rg_code.specs.BlockView.{block}
use Rattle.rgc_answers.specs.Listing.{block_data}
use Rattle.rgc_answers.proofs.listing.blocks_value.Given as goal

abbrev pub invariant-loop-block : goal.invariant-loop-block
invariant-loop-block l = map view l.values.items ≡ map block_data (map block (take l.block-index l.blocks))
