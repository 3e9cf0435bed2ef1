use Rattle.std.proofs.Common.{◌≡◌, ◌∷◌, map, take}
use Rattle.rg_tree.specs.View.{formula as view}
use Rattle.rgc_inductive.proofs.asked.copy_after.Given as goal

abbrev pub invariant-loop-formula : goal.invariant-loop-formula
invariant-loop-formula l = map view l.copies.items ≡ view l.first ∷ map view (take l.formula-index l.others)
