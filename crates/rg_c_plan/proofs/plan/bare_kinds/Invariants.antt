use Rattle.std.proofs.Common.{◌≡◌, ◌-◌, ◌++◌, length, map}
use Rattle.std.specs.List.{range_with_len}
use Rattle.rg_tree.specs.ProgramTrees.{program as program_tree}
use Rattle.rg_c_plan.specs.Kinds.{bare_kind, bare_kinds}
use Rattle.rg_c_plan.proofs.plan.bare_kinds.Given as goal

-- those so far, and those of the rest
abbrev pub invariant-loop-word : goal.invariant-loop-word
invariant-loop-word l = l.list.items ++ map (bare_kind (program_tree l.program) l.apart) (range_with_len l.word (length l.program.layout - l.word)) ≡ bare_kinds (program_tree l.program) l.apart
