use Rattle.rg_gates.specs.Circuit.{negation}
use Rattle.rg_gates.specs.And.{and_of}
use Rattle.rg_rows.specs.Literals.{xor_of}
use Rattle.rg_rows.specs.Rows.{carry_of, test_bit_of}
use Rattle.rg_rows.proofs.LiteralsMean.{and-grows}
use Rattle.rg_rows.proofs.Steps.{carry-grows}
use Rattle.rg_rows.proofs.Building.{stopped, went_on}
use Rattle.rg_rows.proofs.rows.test_bit.Goals as goal

pub returns-in_err-x-in-Equal : goal.returns-in_err-x-in-Equal
unfolding test_bit_of
returns-in_err-x-in-Equal g c = rw c.in-Equal.is (stopped _ c.in_err-x-in-Equal.ensures c.from_residual.ensures (and-grows _ _ _))

pub returns-in_err-x-in-AtLeast : goal.returns-in_err-x-in-AtLeast
unfolding test_bit_of
returns-in_err-x-in-AtLeast g c = rw c.in-AtLeast.is (stopped _ c.in_err-x-in-AtLeast.ensures c.from_residual-in_err-x-in-AtLeast.ensures (rw c.negated-in-AtLeast.ensures (carry-grows _ _ _ _ _)))

pub returns-in_ok-x-in-Equal : goal.returns-in_ok-x-in-Equal
unfolding test_bit_of
returns-in_ok-x-in-Equal g c =
    rw c.in-Equal.is (went_on (xor_of c.args.a c.args.b) (λ x. and_of c.args.so_far (negation x)) c.in_ok-x-in-Equal.ensures.built c.xor.ensures.extends (rw c.negated.ensures at c.and.ensures))

pub returns-in_ok-x-in-AtLeast : goal.returns-in_ok-x-in-AtLeast
unfolding test_bit_of
returns-in_ok-x-in-AtLeast g c =
    rw c.in-AtLeast.is (went_on (xor_of c.args.a (negation c.args.b)) (λ x. carry_of c.args.a (negation c.args.b) x c.args.so_far) (rw c.negated-in-AtLeast.ensures at c.in_ok-x-in-AtLeast.ensures.built) c.xor-in-AtLeast.ensures.extends (rw c.negated-in-AtLeast-2.ensures at c.carry_out.ensures))
