use Rattle.std.proofs.Common.{◌≡◌, map, max, drop}
use Rattle.rg_code.specs.BlockView.{store}
use Rattle.rg_machine.specs.Kept.{stores_room}
use Rattle.rg_machine.proofs.room.stores_room.Given as goal

abbrev pub invariant-loop-store : goal.invariant-loop-store
invariant-loop-store l = max l.room (stores_room (map store (drop l.store-index l.act))) ≡ stores_room (map store l.act)
