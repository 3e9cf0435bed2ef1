use Rattle.std.proofs.Common.{◌≡◌, map, drop}
use Rattle.rg_c_plan.specs.View.{step}
use Rattle.rg_c_report.specs.Reports.{first_since}
use Rattle.rg_c_report.proofs.report.first_since.Given as goal

-- none of those so far
abbrev pub invariant-loop-s : goal.invariant-loop-s
invariant-loop-s l = first_since l.kinds l.word (map step (drop l.s-index l.steps)) ≡ first_since l.kinds l.word (map step l.steps)
