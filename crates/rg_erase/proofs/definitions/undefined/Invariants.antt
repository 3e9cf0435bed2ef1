use Rattle.std.proofs.Common.{◌≡◌, [], map, drop}
use Rattle.rg_tree.specs.View.{formula}
use Rattle.rg_erase.specs.Erased.{conjuncts}
use Rattle.rg_erase.specs.Faults.{undefined}
use Rattle.rg_erase.specs.Inner.Definables.{defining}
use Rattle.rg_erase.proofs.definitions.undefined.Given as goal

-- those so far have no fault
abbrev pub invariant-loop-f : goal.invariant-loop-f
invariant-loop-f l = undefined l.erased (defining l.d) l.before.items (map formula (drop l.f-index l.f-items)) ≡ undefined l.erased (defining l.d) [] (conjuncts (formula l.f))
