use Rattle.rg_tree.proofs.Widths.{typed_expressions_fit, typed_formulas_fit, typed_conditions_fit}
use Rattle.rg_tree.proofs.typing.typed_trees_fit.Goals as goal

pub returns : goal.returns
returns c = record {
  expressions = typed_expressions_fit;
  formulas = typed_formulas_fit;
  conditions = typed_conditions_fit;
}
