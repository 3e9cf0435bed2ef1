use Rattle.std.proofs.Common.{◌≡◌, map, drop}
use Rattle.std.specs.List.{list_any}
use Rattle.rg_tree.specs.View.{expression}
use Rattle.rg_tree.specs.ConditionTrees.{assignment}
use Rattle.rg_c_plan.specs.Changes.{moving}
use Rattle.rg_c_plan.specs.Accesses.{stands_in}
use Rattle.rg_c_plan.proofs.chosen.is_moved.Given as goal

-- none of those so far
abbrev pub invariant-loop-a : goal.invariant-loop-a
invariant-loop-a l = list_any (λ a. stands_in a.target (expression l.index)) (moving (map assignment (drop l.a-index l.act))) ≡ list_any (λ a. stands_in a.target (expression l.index)) (moving (map assignment l.act))
