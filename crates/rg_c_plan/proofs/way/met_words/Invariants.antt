use Rattle.std.proofs.Common.{◌≡◌, ◌-◌, ◌++◌, length, map}
use Rattle.std.specs.List.{filter, range_with_len}
use Rattle.rg_tree.specs.ConditionTrees.{assignment}
use Rattle.rg_c_plan.specs.View.{guard_tree}
use Rattle.rg_c_plan.specs.Changes.{moving}
use Rattle.rg_c_plan.specs.Ways.{meets_at, met_words}
use Rattle.rg_c_plan.proofs.way.met_words.Given as goal

-- those so far, and those of the rest
abbrev pub invariant-loop-word : goal.invariant-loop-word
invariant-loop-word l =
    l.list.items ++ filter ((meets_at l.kinds (guard_tree l.guard) (moving (map assignment l.act)))) (range_with_len l.word (length l.kinds - l.word))
    ≡ met_words l.kinds (guard_tree l.guard) (moving (map assignment l.act))
