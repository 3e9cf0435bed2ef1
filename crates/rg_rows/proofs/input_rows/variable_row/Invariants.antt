use Rattle.std.proofs.Common.{◌≡◌, ◌+◌, ◌-◌, ◌++◌}
use Rattle.rg_rows.specs.Inputs.{variables}
use Rattle.rg_rows.proofs.input_rows.variable_row.Given as goal

abbrev pub invariant-loop-i : goal.invariant-loop-i
invariant-loop-i l = variables l.after l.width ≡ l.row.items ++ variables (l.after + l.i) (l.width - l.i)
