use Rattle.rg_parse.proofs.Shown.{one_formula, one_show}
use Rattle.rg_build.proofs.Builds.{one_start, one_moves}
use Rattle.rg_build.proofs.BuildsLines.{one_derivation}
use Rattle.rg_parse.proofs.parse.one_tree.Goals as goal

pub returns-clause-formula : goal.returns-clause-formula
returns-clause-formula c = one_formula

pub returns-clause-show : goal.returns-clause-show
returns-clause-show c = one_show

pub returns-clause-start : goal.returns-clause-start
returns-clause-start c = one_start

pub returns-clause-moves : goal.returns-clause-moves
returns-clause-moves c = one_moves

pub returns-clause-derivation : goal.returns-clause-derivation
returns-clause-derivation c = one_derivation
