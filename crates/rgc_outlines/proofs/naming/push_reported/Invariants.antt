use Rattle.std.proofs.Common.{◌≡◌, ◌++◌, drop}
use Rattle.rg_tree.specs.ProgramTrees.{program as program_tree}
use Rattle.rgc_outlines.specs.Reported.{reported_lines}
use Rattle.rgc_outlines.proofs.naming.push_reported.Given as goal

-- what is there, and what the rest will add, is the whole
abbrev pub invariant-loop-step : goal.invariant-loop-step
invariant-loop-step l = l.text.items ++ reported_lines l.naming (program_tree l.program) (drop l.step-index l.steps) ≡ l.fn.text.items ++ reported_lines l.naming (program_tree l.program) l.steps
