-- What references lead to, without where it lies in memory.
use Rattle.rg_tree.specs.declared.line.DerivationLine.{DerivationLine}
use Rattle.rg_tree.specs.declared.part.Spec.{Spec}
use Rattle.rg_tree.specs.Statements.{Specification}
use Rattle.rg_tree.specs.ProgramView.{specification}
use Rattle.rg_tree.specs.Lines.{LineTree, line_tree}
use Rattle.std.specs.Borrow.{Bor}

-- the line, and the formulas, that a reference leads to
abbrev pub referred_line : Bor DerivationLine → LineTree
referred_line r = line_tree r.now

abbrev pub referred_spec : Bor Spec → Specification
referred_spec r = specification r.now
