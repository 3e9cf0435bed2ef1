use Rattle.std.proofs.Common.{◌≡◌, ◌++◌, [], ◌∷◌, map, drop}
use Rattle.rg_c.specs.Assigned.{targets_beside}
use Rattle.rg_c.specs.View.{given}
use Rattle.rg_c.proofs.assigned.targets_beside.Given as goal

abbrev pub invariant-loop-g : goal.invariant-loop-g
invariant-loop-g l = l.list.items ++ targets_beside l.known.items (map given (drop l.g-index l.gs)) ≡ targets_beside (l.word ∷ []) (map given l.gs)
