use Rattle.std.proofs.Common.{◌≡◌, ◌-◌, length, map, drop, option_map}
use Rattle.rg_tree.specs.View.{formula}
use Rattle.rg_tree.specs.ConditionTrees.{assignment}
use Rattle.rg_c_plan.specs.Changes.{moving}
use Rattle.rg_c_plan.specs.Where.{changes_where}
use Rattle.rg_c_plan.proofs.sites.changes_where.Given as goal

-- where the last ones do, so many as were gone through
abbrev pub invariant-loop-i : goal.invariant-loop-i
invariant-loop-i l = option_map formula l.site ≡ changes_where l.word (moving (map assignment (drop (length l.act - l.i) l.act)))
