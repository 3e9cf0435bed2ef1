use Rattle.std.proofs.Common.{◌≡◌, false, map, drop}
use Rattle.rg_tree.specs.ConditionTrees.{assignment}
use Rattle.rg_c_plan.specs.Changes.{moving}
use Rattle.rg_c_plan.specs.Apart.{ends_with}
use Rattle.rg_c_plan.proofs.apart.ends_with.Given as goal

-- those so far, and those of the rest
abbrev pub invariant-loop-a : goal.invariant-loop-a
invariant-loop-a l = ends_with l.word l.ends (moving (map assignment (drop l.a-index l.act))) ≡ ends_with l.word false (moving (map assignment l.act))
