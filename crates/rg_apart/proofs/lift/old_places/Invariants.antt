use Rattle.std.proofs.Common.{◌≡◌, take}
use Rattle.rg_erase.specs.Erased.{staying}
use Rattle.rg_c_plan.specs.Accesses.{places}
use Rattle.rg_apart.proofs.lift.old_places.Given as goal

-- those so far
abbrev pub invariant-loop-word : goal.invariant-loop-word
invariant-loop-word l = l.old.items ≡ staying l.erased (take l.word (places l.layout))
