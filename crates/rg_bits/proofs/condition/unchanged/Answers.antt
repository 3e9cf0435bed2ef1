use Rattle.std.proofs.lemmas.Result.{IfOk-from_err}
use Rattle.std.proofs.Common.{arith, rules}
use Rattle.std.specs.List.{zip}
use Rattle.rg_gates.specs.declared.Lit.TheVariants.{True}
use Rattle.rg_words.specs.declared.limits.TheConstants.{MOST_VARIABLES}
use Rattle.rg_gates.proofs.Growth.{Extends-trans}
use Rattle.rg_rows.specs.Within.{rows_of}
use Rattle.rg_bits.specs.Conditions.{same_word_of}
use Rattle.rg_bits.proofs.TreeSteps.{word_in}
use Rattle.rg_bits.proofs.FoldSteps.{fold-turn, fold-done, fold-past}
use Rattle.rg_bits.proofs.ConditionSteps.{zipped_at, zipped_end, same_word-grows}
use Rattle.rg_rows.proofs.RowsOf.{row_at}
use Rattle.rg_bits.proofs.condition.unchanged.Goals as goal
use Rattle.rg_rows.proofs.RowsIn.{IsRowIn-extends}

pub add_same_word-requires-clause-first : goal.add_same_word-requires-clause-first
add_same_word-requires-clause-first g c =
    IsRowIn-extends c.loop-i.invariant.extends (word_in c.args.gates.now (rows_of c.args.after.now) c.loop-i.i _ c.requires.first (row_at c.args.after.now c.loop-i.i c.index-after-i.result c.deref.result.now (omega arith) c.index-after-i.is c.deref.ensures.value))

pub add_same_word-requires-clause-second : goal.add_same_word-requires-clause-second
add_same_word-requires-clause-second g c =
    IsRowIn-extends c.loop-i.invariant.extends (word_in c.args.gates.now (rows_of c.args.before.now) c.loop-i.i _ c.requires.second (row_at c.args.before.now c.loop-i.i c.index-before-i.result c.deref-in-loop-i.result.now (omega arith) c.index-before-i.is c.deref-in-loop-i.ensures.value))

pub returns-in_err-same : goal.returns-in_err-same
returns-in_err-same g c =
    let l = c.loop-i in
    let at = zipped_at c.args.after.now c.args.before.now l.i c.index-after-i.result c.index-before-i.result c.deref.result.now c.deref-in-loop-i.result.now (omega arith) c.index-after-i.is c.index-before-i.is c.deref.ensures.value c.deref-in-loop-i.ensures.value in
    record {
      built = IfOk-from_err c.from_residual.result _ c.from_residual.ensures.0;
      within = IfOk-from_err c.from_residual.result _ c.from_residual.ensures.0;
      extends = Extends-trans l.invariant.extends c.add_same_word.ensures.extends;
      full = λ e. fold-past same_word_of (zip (rows_of c.args.after.now) (rows_of c.args.before.now)) l.i True l.same c.args.gates.now l.gates l.invariant.built same_word-grows (c.deref.result.now, c.deref-in-loop-i.result.now) MOST_VARIABLES at (search rules);
    }

pub loop-i-preserved : goal.loop-i-preserved
loop-i-preserved g c =
    let l = c.loop-i in
    let at = zipped_at c.args.after.now c.args.before.now l.i c.index-after-i.result c.index-before-i.result c.deref.result.now c.deref-in-loop-i.result.now (omega arith) c.index-after-i.is c.index-before-i.is c.deref.ensures.value c.deref-in-loop-i.ensures.value in
    record {
      built = fold-turn same_word_of (zip (rows_of c.args.after.now) (rows_of c.args.before.now)) l.i True l.same c.args.gates.now l.gates l.invariant.built (c.deref.result.now, c.deref-in-loop-i.result.now) c.in_ok-same.same c.add_same_word.new.gates at c.in_ok-same.ensures.built;
      extends = Extends-trans l.invariant.extends c.add_same_word.ensures.extends;
      same = c.in_ok-same.ensures.within;
    }

pub returns : goal.returns
returns g c =
    let l = c.loop-i in
    record {
      built = fold-done same_word_of (zip (rows_of c.args.after.now) (rows_of c.args.before.now)) l.i True l.same c.args.gates.now l.gates l.invariant.built (zipped_end c.args.after.now c.args.before.now l.i (omega arith));
      within = l.invariant.same;
      extends = l.invariant.extends;
      full = λ e. (cc);
    }
