use Rattle.std.proofs.Common.{◌≡◌, ◌++◌, not, drop}
use Rattle.std.specs.List.{filter}
use Rattle.rg_c_report.specs.Reports.{is_met}
use Rattle.rg_c_report.proofs.report.unmet.Given as goal

-- those so far, and those of the rest
abbrev pub invariant-loop-word : goal.invariant-loop-word
invariant-loop-word l = l.list.items ++ filter (λ k. not (is_met k l.met)) (drop l.word-index l.words) ≡ filter (λ k. not (is_met k l.met)) l.words
