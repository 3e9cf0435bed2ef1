use Rattle.std.proofs.lemmas.Result.{IfOk-from_err}
use Rattle.std.proofs.Common.{◌+◌, nat_lt, arith, rules}
use Rattle.rg_words.specs.declared.limits.TheConstants.{MOST_VARIABLES}
use Rattle.rg_gates.proofs.Growth.{Extends-trans}
use Rattle.rg_rows.proofs.Building.{ran_out}
use Rattle.rg_rows.proofs.RowSteps.{sum-turn, sum-done, sum-past, IsRowIn-push}
use Rattle.rg_rows.proofs.rows.sum.Goals as goal
use Rattle.rg_rows.proofs.RowsIn.{IsRowIn-extends}

pub returns-in_err-bit : goal.returns-in_err-bit
returns-in_err-bit g c =
    let l = c.loop-i in
    record {
      built = IfOk-from_err c.from_residual.result _ c.from_residual.ensures.0;
      within = IfOk-from_err c.from_residual.result _ c.from_residual.ensures.0;
      extends = Extends-trans l.invariant.extends c.sum_bit.ensures.extends;
      full = λ e. sum-past c.args.a.now c.args.b.now c.args.carry l.next c.args.gates.now l.gates l.row.items l.i l.invariant.built (nat_lt (l.i + 1) c.min-size.result) MOST_VARIABLES (omega arith) (cc) (search rules);
    }

pub returns-in_err-push : goal.returns-in_err-push
returns-in_err-push g c = ran_out _ c.from_residual-in_err-push.ensures (Extends-trans c.loop-i.invariant.extends c.sum_bit.ensures.extends)

pub loop-i-preserved : goal.loop-i-preserved
loop-i-preserved g c =
    let l = c.loop-i in
    record {
      built = rw c.in_ok-push.ensures.items (sum-turn c.args.a.now c.args.b.now c.args.carry l.next c.args.gates.now l.gates l.row.items l.i l.invariant.built c.in_ok-bit.bit c.in_ok-bit.carried c.sum_bit.new.gates (nat_lt (l.i + 1) c.min-size.result) (omega arith) (cc) c.in_ok-bit.ensures.built);
      extends = Extends-trans l.invariant.extends c.sum_bit.ensures.extends;
      row = rw c.in_ok-push.ensures.items (IsRowIn-push (IsRowIn-extends c.sum_bit.ensures.extends l.invariant.row) c.in_ok-bit.ensures.within.first);
      next = c.in_ok-bit.ensures.within.second;
    }

pub returns : goal.returns
returns g c =
    let l = c.loop-i in
    record {
      built = sum-done c.args.a.now c.args.b.now c.args.carry l.next c.args.gates.now l.gates l.row.items l.i l.invariant.built (omega arith);
      within = l.invariant.row;
      extends = l.invariant.extends;
      full = λ e. (cc);
    }
