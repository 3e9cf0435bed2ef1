use Rattle.std.proofs.Common.{◌≡◌, ◌-◌, ◌&&◌, not, nat_eq, length, map}
use Rattle.std.specs.List.{list_any, range_with_len}
use Rattle.rg_tree.specs.ConditionTrees.{assignment}
use Rattle.rg_c_plan.specs.View.{guard_tree}
use Rattle.rg_c_plan.specs.Changes.{moving}
use Rattle.rg_c_plan.specs.Accesses.{places}
use Rattle.rg_c_plan.specs.Ways.{exposes}
use Rattle.rg_c_plan.proofs.way.exposes_another.Given as goal

-- none of those so far
abbrev pub invariant-loop-other : goal.invariant-loop-other
invariant-loop-other l =
    list_any (λ j. not (nat_eq j l.word) && exposes l.kinds (guard_tree l.guard) (moving (map assignment l.act)) j) (range_with_len l.other (length l.kinds - l.other))
    ≡ list_any (λ j. not (nat_eq j l.word) && exposes l.kinds (guard_tree l.guard) (moving (map assignment l.act)) j) (places l.kinds)
