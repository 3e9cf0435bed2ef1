use Rattle.std.proofs.Common.{◌≡◌, drop}
use Rattle.rg_c_report.specs.Reports.{guarded_beside}
use Rattle.rg_c_report.proofs.report.guarded_beside.Given as goal

-- none of those so far
abbrev pub invariant-loop-other : goal.invariant-loop-other
invariant-loop-other l = guarded_beside l.kinds l.word (drop l.other-index l.met) ≡ guarded_beside l.kinds l.word l.met
