use Rattle.std.proofs.Common.{cond}
use Rattle.rg_tree.specs.View.{formula}
use Rattle.rg_rows.specs.Build.{◌>>=◌}
use Rattle.rg_rows.specs.Within.{rows_of}
use Rattle.rg_rows.specs.Literals.{implies_of}
use Rattle.rg_bits.specs.Formulas.{literal_of}
use Rattle.rg_bits.specs.Conditions.{goal_of, conclusion_of}
use Rattle.rg_rows.proofs.LiteralsMean.{implies-grows}
use Rattle.rg_bits.proofs.ConditionSteps.{implied-grows}
use Rattle.rg_rows.proofs.Building.{stopped, went_on}
use Rattle.rg_bits.proofs.condition.build_conclusion.Goals as goal

pub returns-in_err-goal : goal.returns-in_err-goal
unfolding conclusion_of
returns-in_err-goal g c =
    stopped _ c.in_err-goal.ensures c.from_residual.ensures (rw c.read_rows-read.ensures.rows (implied-grows c.args.c.now.or_no_change (rows_of c.args.after.now) (rows_of c.args.first.now) c.args.held _ _))

pub returns-in_err-goal-2 : goal.returns-in_err-goal-2
unfolding conclusion_of
returns-in_err-goal-2 g c =
    let s = rows_of c.args.first.now in
    let u = rows_of c.args.after.now in
    went_on (literal_of (formula c.args.c.now.goal) (cond c.args.c.now.alone u s) u) (λ l. (goal_of c.args.c.now.or_no_change l u s >>= λ q. implies_of c.args.held q)) (rw c.read_rows-read.ensures.rows at c.in_ok-goal.ensures.built) c.build_literal.ensures.extends
    (stopped _ c.in_err-goal-2.ensures c.from_residual-in_err-goal-2.ensures (implies-grows _ _ _))

pub returns : goal.returns
unfolding conclusion_of
returns g c =
    let s = rows_of c.args.first.now in
    let u = rows_of c.args.after.now in
    went_on (literal_of (formula c.args.c.now.goal) (cond c.args.c.now.alone u s) u) (λ l. (goal_of c.args.c.now.or_no_change l u s >>= λ q. implies_of c.args.held q)) (rw c.read_rows-read.ensures.rows at c.in_ok-goal.ensures.built) c.build_literal.ensures.extends
    (went_on (goal_of c.args.c.now.or_no_change c.in_ok-goal.goal u s) (λ q. implies_of c.args.held q) c.in_ok-goal-2.ensures.built c.goal_or_same.ensures.extends c.implies.ensures)
