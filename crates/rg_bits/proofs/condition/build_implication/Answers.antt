use Rattle.std.proofs.Common.{map}
use Rattle.rg_gates.specs.declared.Lit.TheVariants.{True}
use Rattle.rg_tree.specs.View.{formula}
use Rattle.rg_tree.specs.Conditions.{condition_tree}
use Rattle.rg_rows.specs.Build.{◌>>=◌, fold_of}
use Rattle.rg_rows.specs.Within.{rows_of}
use Rattle.rg_bits.specs.Conditions.{hypothesis_of, reached_rows, conclusion_of, implication_of}
use Rattle.rg_bits.proofs.ConditionSteps.{concluded-grows, conclusion-grows}
use Rattle.rg_rows.proofs.Building.{stopped, went_on}
use Rattle.rg_bits.proofs.condition.build_implication.Goals as goal

pub returns-in_err-held : goal.returns-in_err-held
unfolding implication_of
returns-in_err-held g c =
    stopped _ c.in_err-held.ensures c.from_residual.ensures (rw (c.deref.ensures.value, c.deref-2.ensures.value) (concluded-grows (condition_tree c.args.c.now) (rows_of c.args.first.now) (rows_of c.args.second.items) _ _))

pub returns-in_err-after : goal.returns-in_err-after
unfolding implication_of
returns-in_err-after g c =
    let whole = condition_tree c.args.c.now in
    let s = rows_of c.args.first.now in
    let t = rows_of c.args.second.items in
    went_on (fold_of (hypothesis_of (rows_of c.args.first.now) (rows_of c.args.second.items)) (map formula c.args.c.now.hypotheses.items) True) (λ h. (reached_rows whole.second t >>= λ u. conclusion_of whole s u h)) (rw (c.deref.ensures.value, c.deref-2.ensures.value) at c.in_ok-held.ensures.built) c.hypotheses.ensures.extends
    (stopped _ c.in_err-after.ensures.builds c.from_residual-in_err-after.ensures (conclusion-grows _ _ _ _ _))

pub returns : goal.returns
unfolding implication_of
returns g c =
    let whole = condition_tree c.args.c.now in
    let s = rows_of c.args.first.now in
    let t = rows_of c.args.second.items in
    went_on (fold_of (hypothesis_of (rows_of c.args.first.now) (rows_of c.args.second.items)) (map formula c.args.c.now.hypotheses.items) True) (λ h. (reached_rows whole.second t >>= λ u. conclusion_of whole s u h)) (rw (c.deref.ensures.value, c.deref-2.ensures.value) at c.in_ok-held.ensures.built) c.hypotheses.ensures.extends
    (went_on (reached_rows whole.second t) (λ u. conclusion_of whole s u c.in_ok-held.held) c.in_ok-after.ensures.builds.built c.reached.ensures.builds.extends
    (rw c.deref-3.ensures.value at c.build_conclusion.ensures))
