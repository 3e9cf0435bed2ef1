use Rattle.std.proofs.Common.{◌≡◌, map, drop}
use Rattle.rg_c_plan.specs.View.{view}
use Rattle.rg_c_report.specs.Reports.{first_reason}
use Rattle.rg_c_report.proofs.report.first_reason.Given as goal

-- none of those so far
abbrev pub invariant-loop-v : goal.invariant-loop-v
invariant-loop-v l = first_reason (map view (drop l.v-index l.views)) l.word ≡ first_reason (map view l.views) l.word
