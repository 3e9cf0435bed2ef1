use Rattle.std.proofs.Common.{◌≡◌, drop}
use Rattle.rg_c_report.specs.Reports.{is_met}
use Rattle.rg_c_report.proofs.report.is_met.Given as goal

-- none of those so far
abbrev pub invariant-loop-other : goal.invariant-loop-other
invariant-loop-other l = is_met l.word (drop l.other-index l.met) ≡ is_met l.word l.met
