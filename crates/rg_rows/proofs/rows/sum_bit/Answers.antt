use Rattle.std.proofs.Common.{◌≤◌, Bool, refl, arith}
use Rattle.rg_gates.specs.Circuit.{Circuit, variable_count}
use Rattle.rg_gates.specs.declared.Lit.{Lit}
use Rattle.rg_gates.proofs.Growth.{IsIn-extends}
use Rattle.rg_rows.specs.Build.{Build, ◌>>=◌, give}
use Rattle.rg_rows.specs.Literals.{xor_of}
use Rattle.rg_rows.specs.Rows.{sum_bit_of, next_of}
use Rattle.rg_rows.proofs.LiteralsMean.{xor-grows}
use Rattle.rg_rows.proofs.Steps.{next-grows}
use Rattle.rg_rows.proofs.Building.{stopped, went_on, gave}
use Rattle.rg_rows.proofs.rows.sum_bit.Goals as goal

-- what is left after the exclusive or of the operands, and after the sum's bit
with_carry : Lit → Lit → Lit → Bool → Lit → Build (Lit × Lit)
with_carry a b c more x = xor_of x c >>= λ s. (next_of more a b x c >>= λ d. give (s, d))

with_carry-grows : (a b c : Lit) (more : Bool) (x : Lit) (d : Circuit) → variable_count d ≤ variable_count (with_carry a b c more x d).1
unfolding with_carry
with_carry-grows a b c more x d = let s = xor_of x c d in omega (arith, xor-grows x c d, next-grows more a b x c s.1)

pub returns-in_err-x : goal.returns-in_err-x
unfolding sum_bit_of with_carry
returns-in_err-x g c =
    stopped _ c.in_err-x.ensures c.from_residual.ensures (with_carry-grows c.args.a c.args.b c.args.carry c.args.more _ _)

pub returns-in_err-sum : goal.returns-in_err-sum
unfolding sum_bit_of with_carry
returns-in_err-sum g c =
    went_on (xor_of c.args.a c.args.b) (with_carry c.args.a c.args.b c.args.carry c.args.more) c.in_ok-x.ensures.built c.xor.ensures.extends
    (stopped _ c.in_err-sum.ensures c.from_residual-in_err-sum.ensures (next-grows _ _ _ _ _ _))

pub returns-in_err-next : goal.returns-in_err-next
unfolding sum_bit_of with_carry
returns-in_err-next g c =
    went_on (xor_of c.args.a c.args.b) (with_carry c.args.a c.args.b c.args.carry c.args.more) c.in_ok-x.ensures.built c.xor.ensures.extends
    (went_on (xor_of c.in_ok-x.x c.args.carry) (λ s. (next_of c.args.more c.args.a c.args.b c.in_ok-x.x c.args.carry >>= λ d. give (s, d))) c.in_ok-sum.ensures.built c.xor-2.ensures.extends
    (stopped _ c.in_err-next.ensures c.from_residual-in_err-next.ensures (omega arith)))

pub returns : goal.returns
unfolding sum_bit_of with_carry
returns g c =
    went_on (xor_of c.args.a c.args.b) (with_carry c.args.a c.args.b c.args.carry c.args.more) c.in_ok-x.ensures.built c.xor.ensures.extends
    (went_on (xor_of c.in_ok-x.x c.args.carry) (λ s. (next_of c.args.more c.args.a c.args.b c.in_ok-x.x c.args.carry >>= λ d. give (s, d))) c.in_ok-sum.ensures.built c.xor-2.ensures.extends
    (went_on (next_of c.args.more c.args.a c.args.b c.in_ok-x.x c.args.carry) (λ d. give (c.in_ok-sum.sum, d)) c.in_ok-next.ensures.built c.next_carry.ensures.extends
    (gave _ refl (record { first = IsIn-extends c.next_carry.ensures.extends c.in_ok-sum.ensures.within; second = c.in_ok-next.ensures.within }))))
