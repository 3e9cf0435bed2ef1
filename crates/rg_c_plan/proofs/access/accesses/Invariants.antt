use Rattle.std.proofs.Common.{◌≡◌, ◌++◌, map, drop}
use Rattle.rg_tree.specs.Statements.{PartTree}
use Rattle.rg_tree.specs.ProgramView.{part}
use Rattle.rg_tree.specs.ProgramTrees.{program as program_tree}
use Rattle.rg_c_plan.specs.Accesses.{steps, part_access, accesses}
use Rattle.rg_c_plan.proofs.access.accesses.Given as goal

-- those so far, and the rest
abbrev pub invariant-loop-part : goal.invariant-loop-part
invariant-loop-part l = l.list.items ++ map (λ (p : PartTree). part_access l.word (steps p.body)) (map part (drop l.part-index l.part-items)) ≡ accesses (program_tree l.program) l.word
