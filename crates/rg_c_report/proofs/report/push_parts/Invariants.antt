use Rattle.std.proofs.Common.{◌≡◌, ◌++◌, map, drop}
use Rattle.std.specs.String.{string_bytes}
use Rattle.rg_tree.specs.ProgramView.{part}
use Rattle.rg_tree.specs.ProgramTrees.{program as program_tree}
use Rattle.rg_c_report.specs.Reports.{parts_text}
use Rattle.rg_c_report.proofs.report.push_parts.Given as goal

-- those so far, and those of the rest
abbrev pub invariant-loop-place : goal.invariant-loop-place
invariant-loop-place l =
    string_bytes l.text ++ parts_text (program_tree l.page.program.now) l.page.order.now l.page.kinds.now l.page.lines.now l.place (map part (drop l.place l.parts))
    ≡ string_bytes l.initial.text ++ parts_text (program_tree l.page.program.now) l.page.order.now l.page.kinds.now l.page.lines.now 0 (map part l.parts)
