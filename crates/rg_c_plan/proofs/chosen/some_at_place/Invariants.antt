use Rattle.std.proofs.Common.{◌≡◌, map, drop}
use Rattle.std.specs.List.{list_any}
use Rattle.rg_tree.specs.ConditionTrees.{assignment}
use Rattle.rg_c_plan.specs.Changes.{moving}
use Rattle.rg_c_plan.specs.Once.{stores_at_place}
use Rattle.rg_c_plan.proofs.chosen.some_at_place.Given as goal

-- none of those so far
abbrev pub invariant-loop-a : goal.invariant-loop-a
invariant-loop-a l = list_any (stores_at_place l.kinds l.place) (moving (map assignment (drop l.a-index l.act))) ≡ list_any (stores_at_place l.kinds l.place) (moving (map assignment l.act))
