use Rattle.rg_gates.specs.And.{and_of}
use Rattle.rg_words.specs.declared.operators.Comparison.TheVariants.{Equal}
use Rattle.rg_bits.specs.Formulas.{compared_of}
use Rattle.rg_bits.specs.Conditions.{same_word_of}
use Rattle.rg_rows.proofs.LiteralsMean.{and-grows}
use Rattle.rg_rows.proofs.Building.{stopped, went_on}
use Rattle.rg_bits.proofs.condition.add_same_word.Goals as goal

pub returns-in_err-equal : goal.returns-in_err-equal
unfolding same_word_of
returns-in_err-equal g c = stopped _ c.in_err-equal.ensures c.from_residual.ensures (and-grows _ _ _)

pub returns : goal.returns
unfolding same_word_of
returns g c = went_on (compared_of Equal c.args.after.now c.args.before.now) (λ l. and_of c.args.so_far l) c.in_ok-equal.ensures.built c.compare.ensures.extends c.and.ensures
