use Rattle.std.proofs.Common.{map, drop, ◌↔◌}
use Rattle.rg_tree.specs.ProgramView.{specification}
use Rattle.rg_tree.specs.Lines.{line_tree}
use Rattle.rg_rules.specs.Faults.{IsDerived}
use Rattle.rg_rules.proofs.fits.is_derived.Given as goal

abbrev pub invariant-loop-line : goal.invariant-loop-line
invariant-loop-line l =
    IsDerived (map line_tree l.lines) l.number (specification l.spec) ↔ IsDerived (map line_tree (drop l.line-index l.lines)) l.number (specification l.spec)
