use Rattle.std.proofs.Common.{length}
use Rattle.rgc_answers.proofs.Fitting.{all_fit_at}
use Rattle.rgc_answers.proofs.formulas.push_over.Goals as goal

pub formula_over-requires-clause-fits : goal.formula_over-requires-clause-fits
formula_over-requires-clause-fits c =
    all_fit_at c.args.hypotheses.now (length c.args.plain.now) c.loop-hypothesis.hypothesis-index c.hypothesis-item.result c.requires.fit c.loop-hypothesis-test.true c.hypothesis-item.is
