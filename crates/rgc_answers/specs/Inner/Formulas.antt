-- Formulas of the code over rows.
use Rattle.std.specs.Prelude.{List, map}
use Rattle.rg_tree.specs.Trees.{Proposition}
use Rattle.rg_tree.specs.View.{expression, formula}
use Rattle.rg_tree.specs.declared.tree.Expr.{Expr}
use Rattle.rg_tree.specs.declared.tree.Formula.{Formula}
use Rattle.rgc_answers.specs.Replaced.{formula_over}

-- each formula with its words replaced by the rows of the two states
abbrev pub formulas_over : List Expr → List Expr → List Formula → List Proposition
formulas_over plain primed formulas = map (formula_over (map expression plain) (map expression primed)) (map formula formulas)
