use Rattle.std.proofs.Common.{◌≡◌, map, drop}
use Rattle.rg_c_plan.specs.View.{step}
use Rattle.rg_c_plan.specs.Accesses.{part_access}
use Rattle.rg_c_plan.proofs.access.some_reads.Given as goal

-- none of those so far
abbrev pub invariant-loop-s : goal.invariant-loop-s
invariant-loop-s l = (part_access l.word (map step (drop l.s-index l.steps))).reads ≡ (part_access l.word (map step l.steps)).reads
