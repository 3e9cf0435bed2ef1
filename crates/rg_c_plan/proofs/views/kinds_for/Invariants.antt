use Rattle.std.proofs.Common.{◌≡◌, ◌-◌, ◌++◌, length, map}
use Rattle.std.specs.List.{range_with_len}
use Rattle.rg_tree.specs.ProgramTrees.{program as program_tree}
use Rattle.rg_c_plan.specs.Ways.{kind_at}
use Rattle.rg_c_plan.specs.Views.{others_access, seen_kind, kinds_for}
use Rattle.rg_c_plan.proofs.views.kinds_for.Given as goal

-- those so far, and those of the rest
abbrev pub invariant-loop-word : goal.invariant-loop-word
invariant-loop-word l =
    l.list.items ++ map (λ k. seen_kind (kind_at l.kinds k) (others_access (program_tree l.program) l.order l.part k)) (range_with_len l.word (length l.program.layout - l.word))
    ≡ kinds_for (program_tree l.program) l.order l.kinds l.part
