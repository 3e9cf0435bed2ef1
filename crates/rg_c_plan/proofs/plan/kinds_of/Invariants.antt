use Rattle.std.proofs.Common.{◌≡◌, ◌-◌, ◌++◌, length, map}
use Rattle.std.specs.List.{range_with_len}
use Rattle.rg_tree.specs.ProgramTrees.{program as program_tree}
use Rattle.rg_c_plan.specs.Kinds.{kind_of, kinds_of}
use Rattle.rg_c_plan.proofs.plan.kinds_of.Given as goal

-- those so far, and those of the rest
abbrev pub invariant-loop-word : goal.invariant-loop-word
invariant-loop-word l = l.kinds.items ++ map (kind_of (program_tree l.program) l.order l.apart) (range_with_len l.word (length l.program.layout - l.word)) ≡ kinds_of (program_tree l.program) l.order l.apart
