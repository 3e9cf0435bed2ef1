use Rattle.std.proofs.Common.{◌≡◌, ◌+◌, ◌≤◌, map, drop}
use Rattle.rg_tree.specs.ConditionTrees.{assignment}
use Rattle.rg_c_plan.specs.Changes.{moving}
use Rattle.rg_c_plan.specs.Ways.{times_assigned}
use Rattle.rg_c_plan.proofs.way.times_assigned.Given as goal

-- those so far, and those of the rest
abbrev pub invariant-loop-a : goal.invariant-loop-a
invariant-loop-a l = record {
  count : l.count + times_assigned l.word (moving (map assignment (drop l.a-index l.act))) ≡ times_assigned l.word (moving (map assignment l.act));
  within : l.count ≤ l.a-index;
}
