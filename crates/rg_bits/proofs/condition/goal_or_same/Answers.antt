use Rattle.std.specs.List.{zip}
use Rattle.rg_gates.specs.declared.Lit.TheVariants.{True}
use Rattle.rg_rows.specs.Build.{fold_of}
use Rattle.rg_rows.specs.Within.{rows_of}
use Rattle.rg_rows.specs.Literals.{or_of}
use Rattle.rg_bits.specs.Conditions.{goal_of, same_word_of}
use Rattle.rg_rows.proofs.LiteralsMean.{or-grows}
use Rattle.rg_rows.proofs.Building.{stopped, went_on}
use Rattle.rg_bits.proofs.condition.goal_or_same.Goals as goal

pub returns-in_err-same : goal.returns-in_err-same
unfolding goal_of
returns-in_err-same g c = rw c.if-or_no_change.true (stopped _ c.in_err-same.ensures c.from_residual.ensures (or-grows _ _ _))

pub returns-then-or_no_change : goal.returns-then-or_no_change
unfolding goal_of
returns-then-or_no_change g c =
    rw c.if-or_no_change.true (went_on (fold_of same_word_of (zip (rows_of c.args.after.now) (rows_of c.args.before.now)) True) (λ l. or_of c.args.goal l) c.in_ok-same.ensures.built c.unchanged.ensures.extends c.or.ensures)
