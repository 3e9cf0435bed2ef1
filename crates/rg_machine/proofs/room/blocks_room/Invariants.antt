use Rattle.std.proofs.Common.{◌≡◌, map, max, drop}
use Rattle.rg_code.specs.BlockView.{block}
use Rattle.rg_machine.specs.Kept.{blocks_room}
use Rattle.rg_machine.proofs.room.blocks_room.Given as goal

abbrev pub invariant-loop-block : goal.invariant-loop-block
invariant-loop-block l = max l.room (blocks_room (map block (drop l.block-index l.blocks))) ≡ blocks_room (map block l.blocks)
