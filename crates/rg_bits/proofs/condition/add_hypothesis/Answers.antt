use Rattle.rg_gates.specs.And.{and_of}
use Rattle.rg_tree.specs.View.{formula}
use Rattle.rg_rows.specs.Within.{rows_of}
use Rattle.rg_bits.specs.Formulas.{literal_of}
use Rattle.rg_bits.specs.Conditions.{hypothesis_of}
use Rattle.rg_rows.proofs.LiteralsMean.{and-grows}
use Rattle.rg_rows.proofs.Building.{stopped, went_on}
use Rattle.rg_bits.proofs.condition.add_hypothesis.Goals as goal

pub returns-in_err-literal : goal.returns-in_err-literal
unfolding hypothesis_of
returns-in_err-literal g c = stopped _ c.in_err-literal.ensures c.from_residual.ensures (and-grows _ _ _)

pub returns : goal.returns
unfolding hypothesis_of
returns g c = went_on (literal_of (formula c.args.f.now) (rows_of c.args.first.now) (rows_of c.args.second.now)) (λ l. and_of c.args.held l) c.in_ok-literal.ensures.built c.build_literal.ensures.extends c.and.ensures
