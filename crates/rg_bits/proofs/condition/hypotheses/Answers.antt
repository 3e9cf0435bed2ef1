use Rattle.std.proofs.lemmas.Result.{IfOk-from_err}
use Rattle.std.proofs.Common.{length, map, arith, rules}
use Rattle.std.proofs.lemmas.List.{drop_all, length-map}
use Rattle.rg_gates.specs.declared.Lit.TheVariants.{True}
use Rattle.rg_words.specs.declared.limits.TheConstants.{MOST_VARIABLES}
use Rattle.rg_gates.proofs.Growth.{Extends-trans}
use Rattle.rg_tree.specs.View.{formula}
use Rattle.rg_rows.specs.Within.{rows_of}
use Rattle.rg_bits.specs.Conditions.{hypothesis_of}
use Rattle.rg_bits.proofs.FoldSteps.{fold-turn, fold-done, fold-past, drop_mapped}
use Rattle.rg_bits.proofs.ConditionSteps.{hypothesis-grows, formula_fits}
use Rattle.rg_bits.proofs.condition.hypotheses.Goals as goal

pub add_hypothesis-requires-clause-words : goal.add_hypothesis-requires-clause-words
add_hypothesis-requires-clause-words g c =
    let at = drop_mapped formula c.args.fs.now c.loop-f.f-index c.f-item.result (omega arith) c.f-item.is in
    formula_fits (map formula c.args.fs.now) (length c.args.first.now) c.loop-f.f-index (formula c.f-item.result) _ c.requires.words at

pub returns-in_err-held : goal.returns-in_err-held
returns-in_err-held g c =
    let l = c.loop-f in
    let step = hypothesis_of (rows_of c.args.first.now) (rows_of c.args.second.now) in
    let at = drop_mapped formula c.args.fs.now l.f-index c.f-item.result (omega arith) c.f-item.is in
    record {
      built = IfOk-from_err c.from_residual.result _ c.from_residual.ensures.0;
      within = IfOk-from_err c.from_residual.result _ c.from_residual.ensures.0;
      extends = Extends-trans l.invariant.extends c.add_hypothesis.ensures.extends;
      full = λ e. fold-past step (map formula c.args.fs.now) l.f-index True l.held c.args.gates.now l.gates l.invariant.built (hypothesis-grows (rows_of c.args.first.now) (rows_of c.args.second.now)) (formula c.f-item.result) MOST_VARIABLES at (search rules);
    }

pub loop-f-preserved : goal.loop-f-preserved
loop-f-preserved g c =
    let l = c.loop-f in
    let step = hypothesis_of (rows_of c.args.first.now) (rows_of c.args.second.now) in
    let at = drop_mapped formula c.args.fs.now l.f-index c.f-item.result (omega arith) c.f-item.is in
    record {
      built = fold-turn step (map formula c.args.fs.now) l.f-index True l.held c.args.gates.now l.gates l.invariant.built (formula c.f-item.result) c.in_ok-held.held c.add_hypothesis.new.gates at c.in_ok-held.ensures.built;
      extends = Extends-trans l.invariant.extends c.add_hypothesis.ensures.extends;
      held = c.in_ok-held.ensures.within;
    }

pub returns : goal.returns
returns g c =
    let l = c.loop-f in
    let step = hypothesis_of (rows_of c.args.first.now) (rows_of c.args.second.now) in
    record {
      built = fold-done step (map formula c.args.fs.now) l.f-index True l.held c.args.gates.now l.gates l.invariant.built (drop_all l.f-index (map formula c.args.fs.now) (omega (arith, length-map c.args.fs.now formula)));
      within = l.invariant.held;
      extends = l.invariant.extends;
      full = λ e. (cc);
    }
