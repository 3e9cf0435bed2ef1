use Rattle.std.proofs.Common.{◌≡◌, map, drop}
use Rattle.rg_tree.specs.ConditionTrees.{assignment}
use Rattle.rg_c_plan.specs.Changes.{moving}
use Rattle.rg_c_plan.specs.Accesses.{writes}
use Rattle.rg_c_plan.proofs.mention.writes.Given as goal

-- none of those so far
abbrev pub invariant-loop-a : goal.invariant-loop-a
invariant-loop-a l = writes l.word (moving (map assignment (drop l.a-index l.act))) ≡ writes l.word (moving (map assignment l.act))
