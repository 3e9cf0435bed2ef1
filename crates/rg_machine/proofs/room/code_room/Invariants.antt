use Rattle.std.proofs.Common.{◌≡◌, map, max, drop}
use Rattle.rg_code.specs.BlockView.{blocks}
use Rattle.rg_machine.specs.Kept.{codes_room}
use Rattle.rg_machine.proofs.room.code_room.Given as goal

abbrev pub invariant-loop-part : goal.invariant-loop-part
invariant-loop-part l = max l.room (codes_room (map blocks (drop l.part-index l.part-items))) ≡ codes_room (map blocks l.part-items)
