use Rattle.std.proofs.Common.{◌≡◌, map, drop}
use Rattle.std.specs.List.{list_any}
use Rattle.rg_tree.specs.ConditionTrees.{assignment}
use Rattle.rg_c_plan.specs.Changes.{moving, change_of}
use Rattle.rg_c_plan.specs.Accesses.{is_read_by}
use Rattle.rg_c_plan.proofs.mention.changes_read.Given as goal

-- none of those so far
abbrev pub invariant-loop-a : goal.invariant-loop-a
invariant-loop-a l = list_any (λ a. is_read_by l.word (change_of a)) (moving (map assignment (drop l.a-index l.act))) ≡ list_any (λ a. is_read_by l.word (change_of a)) (moving (map assignment l.act))
