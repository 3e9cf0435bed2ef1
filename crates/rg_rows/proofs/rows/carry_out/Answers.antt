use Rattle.rg_gates.specs.And.{and_of}
use Rattle.rg_rows.specs.Build.{◌>>=◌}
use Rattle.rg_rows.specs.Literals.{or_of}
use Rattle.rg_rows.specs.Rows.{carry_of}
use Rattle.rg_rows.proofs.LiteralsMean.{or-grows}
use Rattle.rg_rows.proofs.Steps.{both-grows}
use Rattle.rg_rows.proofs.Building.{stopped, went_on}
use Rattle.rg_rows.proofs.rows.carry_out.Goals as goal

pub returns-in_err-both : goal.returns-in_err-both
unfolding carry_of
returns-in_err-both g c = stopped _ c.in_err-both.ensures c.from_residual.ensures (both-grows c.args.carry c.args.x _ _)

pub returns-in_err-carried : goal.returns-in_err-carried
unfolding carry_of
returns-in_err-carried g c =
    went_on (and_of c.args.a c.args.b) (λ l. (and_of c.args.carry c.args.x >>= λ r. or_of l r)) c.in_ok-both.ensures.built c.and.ensures.extends
    (stopped _ c.in_err-carried.ensures c.from_residual-in_err-carried.ensures (or-grows _ _ _))

pub returns : goal.returns
unfolding carry_of
returns g c =
    went_on (and_of c.args.a c.args.b) (λ l. (and_of c.args.carry c.args.x >>= λ r. or_of l r)) c.in_ok-both.ensures.built c.and.ensures.extends
    (went_on (and_of c.args.carry c.args.x) (λ r. or_of c.in_ok-both.both r) c.in_ok-carried.ensures.built c.and-2.ensures.extends c.or.ensures)
