-- What a walk found, and the lines that report it. Such a value is made in this crate alone, by the call that writes the lines of just this walk.
use Rattle.std.specs.Prelude.{ℕ, List}
use Rattle.rg_walk.specs.declared.run.Walked.{Walked}
use Rattle.rg_outline_reports.specs.declared.walk_report.WalkReport.{WalkReport}

-- what was found
abbrev pub reported_walk : WalkReport → Walked
reported_walk report = report.walked

-- the lines
abbrev pub reported_lines : WalkReport → List ℕ
reported_lines report = report.lines.items
