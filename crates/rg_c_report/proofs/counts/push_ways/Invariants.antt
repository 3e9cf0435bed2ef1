use Rattle.std.proofs.Common.{◌≡◌, ◌++◌, map, drop}
use Rattle.rg_c_plan.specs.View.{step}
use Rattle.rg_c_report.specs.Counts.{way_of_step}
use Rattle.rg_c_report.proofs.counts.push_ways.Given as goal

-- those so far, and those of the rest
abbrev pub invariant-loop-s : goal.invariant-loop-s
invariant-loop-s l = l.ways.items ++ map (way_of_step l.kinds) (map step (drop l.s-index l.steps)) ≡ l.initial.ways.items ++ map (way_of_step l.kinds) (map step l.steps)
