use Rattle.rg_gates.specs.Circuit.{negation}
use Rattle.rg_gates.specs.And.{and_of}
use Rattle.rg_rows.specs.Build.{◌>>=◌}
use Rattle.rg_rows.specs.Literals.{pick_of, or_of}
use Rattle.rg_rows.proofs.LiteralsMean.{or-grows}
use Rattle.rg_rows.proofs.Steps.{both-grows}
use Rattle.rg_rows.proofs.Building.{stopped, went_on}
use Rattle.rg_rows.proofs.literals.pick.Goals as goal

pub returns-in_err-left : goal.returns-in_err-left
unfolding pick_of
returns-in_err-left g c = stopped _ c.in_err-left.ensures c.from_residual.ensures (both-grows (negation c.args.c) c.args.b _ _)

pub returns-in_err-right : goal.returns-in_err-right
unfolding pick_of
returns-in_err-right g c =
    went_on (and_of c.args.c c.args.a) (λ l. (and_of (negation c.args.c) c.args.b >>= λ r. or_of l r)) c.in_ok-left.ensures.built c.and.ensures.extends
    (stopped _ c.in_err-right.ensures c.from_residual-in_err-right.ensures (rw c.negated.ensures (or-grows _ _ _)))

pub returns : goal.returns
unfolding pick_of
returns g c =
    went_on (and_of c.args.c c.args.a) (λ l. (and_of (negation c.args.c) c.args.b >>= λ r. or_of l r)) c.in_ok-left.ensures.built c.and.ensures.extends
    (went_on (and_of (negation c.args.c) c.args.b) (λ r. or_of c.in_ok-left.left r) (rw c.negated.ensures at c.in_ok-right.ensures.built) c.and-2.ensures.extends c.or.ensures)
