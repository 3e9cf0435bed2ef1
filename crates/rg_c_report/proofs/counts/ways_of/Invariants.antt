use Rattle.std.proofs.Common.{◌≡◌, ◌++◌, map, drop}
use Rattle.rg_c_plan.specs.View.{view}
use Rattle.rg_c_report.specs.Counts.{ways_of}
use Rattle.rg_c_report.proofs.counts.ways_of.Given as goal

-- those so far, and those of the rest
abbrev pub invariant-loop-v : goal.invariant-loop-v
invariant-loop-v l = l.ways.items ++ ways_of (map view (drop l.v-index l.views)) ≡ ways_of (map view l.views)
