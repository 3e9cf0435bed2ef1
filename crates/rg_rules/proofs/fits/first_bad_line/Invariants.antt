use Rattle.std.proofs.Common.{suc, map}
use Rattle.rg_rules.specs.Inner.View.{referred}
use Rattle.rg_tree.specs.Lines.{line_tree}
use Rattle.rg_rules.specs.Faults.{AreFaultlessBefore}
use Rattle.rg_rules.proofs.fits.first_bad_line.Given as goal

abbrev pub invariant-loop-i : goal.invariant-loop-i
invariant-loop-i l = AreFaultlessBefore (map referred l.list) (map line_tree l.lines) (suc l.i)
