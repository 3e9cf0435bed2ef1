use Rattle.std.proofs.Common.{◌≡◌, map, drop}
use Rattle.rg_tree.specs.View.{expression}
use Rattle.rg_tree.specs.ConditionTrees.{assignment}
use Rattle.rg_c_plan.specs.Changes.{moving}
use Rattle.rg_c_plan.specs.Once.{are_chosen}
use Rattle.rg_c_plan.proofs.chosen.are_chosen.Given as goal

-- those so far are
abbrev pub invariant-loop-i : goal.invariant-loop-i
invariant-loop-i l = are_chosen l.kinds (expression l.index) (moving (map assignment (drop l.i l.act))) ≡ are_chosen l.kinds (expression l.index) (moving (map assignment l.act))
