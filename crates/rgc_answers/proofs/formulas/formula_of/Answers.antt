use Rattle.std.proofs.Common.{◌≡◌, rules}
use Rattle.rg_tree.specs.Conditions.{condition_tree}
use Rattle.rg_tree.specs.View.{formula}
use Rattle.rgc_answers.specs.Formulas.{formula_of}
use Rattle.rgc_answers.proofs.Fitting.{formula_fits}
use Rattle.rgc_answers.proofs.formulas.formula_of.Goals as goal

pub returns-clause-fits : goal.returns-clause-fits
returns-clause-fits c =
    let tree = condition_tree c.args.c.now in
    let is : formula c.in_ok-whole.whole ≡ formula_of tree = search rules in
    rw is (formula_fits tree c.facts.ensures.fits)
