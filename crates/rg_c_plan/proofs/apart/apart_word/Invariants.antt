use Rattle.std.proofs.Common.{◌≡◌, ◌-◌, ◌&&◌, length, map}
use Rattle.std.specs.List.{find, range_with_len}
use Rattle.rg_tree.specs.ConditionTrees.{assignment}
use Rattle.rg_c_plan.specs.View.{guard_tree}
use Rattle.rg_c_plan.specs.Changes.{moving}
use Rattle.rg_c_plan.specs.Accesses.{touches}
use Rattle.rg_c_plan.specs.Ways.{kind_at}
use Rattle.rg_c_plan.specs.Apart.{is_apart_kind, apart_word}
use Rattle.rg_c_plan.proofs.apart.apart_word.Given as goal

-- none of those so far
abbrev pub invariant-loop-word : goal.invariant-loop-word
invariant-loop-word l =
    find (λ k. is_apart_kind (kind_at l.kinds k) && touches k (guard_tree l.guard) (moving (map assignment l.act))) (range_with_len l.word (length l.kinds - l.word))
    ≡ apart_word l.kinds (guard_tree l.guard) (moving (map assignment l.act))
