use Rattle.std.proofs.Common.{◌≡◌, ◌++◌, map, drop}
use Rattle.std.specs.String.{string_bytes}
use Rattle.rg_c_plan.specs.View.{step}
use Rattle.rg_c_report.specs.Reports.{steps_text}
use Rattle.rg_c_report.proofs.report.push_steps.Given as goal

-- those so far, and those of the rest
abbrev pub invariant-loop-s : goal.invariant-loop-s
invariant-loop-s l =
    string_bytes l.text ++ steps_text l.page.program.now.layout l.page.lines.now l.page.bare.now l.page.kinds.now (map step (drop l.s-index l.steps))
    ≡ string_bytes l.initial.text ++ steps_text l.page.program.now.layout l.page.lines.now l.page.bare.now l.page.kinds.now (map step l.steps)
