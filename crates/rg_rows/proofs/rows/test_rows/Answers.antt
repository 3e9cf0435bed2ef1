use Rattle.std.proofs.lemmas.Result.{IfOk-from_err}
use Rattle.std.proofs.Common.{arith, rules}
use Rattle.rg_words.specs.declared.limits.TheConstants.{MOST_VARIABLES}
use Rattle.rg_gates.proofs.Growth.{Extends-trans}
use Rattle.rg_rows.proofs.TestSteps.{test-turn, test-done, test-past}
use Rattle.rg_rows.proofs.rows.test_rows.Goals as goal

pub loop-i-preserved : goal.loop-i-preserved
loop-i-preserved g c =
    let l = c.loop-i in
    record {
      built = test-turn c.args.test c.args.a.now c.args.b.now c.args.start l.so_far c.args.gates.now l.gates l.i l.invariant.built c.in_ok-so_far.so_far c.test_bit.new.gates (omega arith) c.in_ok-so_far.ensures.built;
      extends = Extends-trans l.invariant.extends c.test_bit.ensures.extends;
      so_far = c.in_ok-so_far.ensures.within;
    }

pub returns : goal.returns
returns g c =
    let l = c.loop-i in
    record {
      built = test-done c.args.test c.args.a.now c.args.b.now c.args.start l.so_far c.args.gates.now l.gates l.i l.invariant.built (omega arith);
      within = l.invariant.so_far;
      extends = l.invariant.extends;
      full = λ e. (cc);
    }

pub returns-in_err-so_far : goal.returns-in_err-so_far
returns-in_err-so_far g c =
    let l = c.loop-i in
    record {
      built = IfOk-from_err c.from_residual.result _ c.from_residual.ensures.0;
      within = IfOk-from_err c.from_residual.result _ c.from_residual.ensures.0;
      extends = Extends-trans l.invariant.extends c.test_bit.ensures.extends;
      full = λ e. test-past c.args.test c.args.a.now c.args.b.now c.args.start l.so_far c.args.gates.now l.gates l.i l.invariant.built MOST_VARIABLES (omega arith) (search rules);
    }
