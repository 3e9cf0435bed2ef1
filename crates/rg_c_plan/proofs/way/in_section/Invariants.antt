use Rattle.std.proofs.Common.{◌≡◌, ◌-◌, length, map}
use Rattle.std.specs.List.{list_any, range_with_len}
use Rattle.rg_tree.specs.ConditionTrees.{assignment}
use Rattle.rg_c_plan.specs.View.{guard_tree}
use Rattle.rg_c_plan.specs.Changes.{moving}
use Rattle.rg_c_plan.specs.Accesses.{places}
use Rattle.rg_c_plan.specs.Ways.{touches_guarded}
use Rattle.rg_c_plan.proofs.way.in_section.Given as goal

-- none of those so far
abbrev pub invariant-loop-word : goal.invariant-loop-word
invariant-loop-word l =
    list_any (touches_guarded l.kinds (guard_tree l.guard) (moving (map assignment l.act))) (range_with_len l.word (length l.kinds - l.word))
    ≡ list_any (touches_guarded l.kinds (guard_tree l.guard) (moving (map assignment l.act))) (places l.kinds)
