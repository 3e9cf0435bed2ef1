use Rattle.std.proofs.lemmas.Result.{IfOk-from_err}
use Rattle.std.proofs.Common.{length, map, ◌∙◌, arith, rules}
use Rattle.std.proofs.lemmas.List.{drop_all, length-map}
use Rattle.rg_words.specs.declared.limits.TheConstants.{MOST_VARIABLES}
use Rattle.rg_gates.proofs.Growth.{Extends-trans}
use Rattle.rg_tree.specs.Conditions.{assignment}
use Rattle.rg_rows.specs.Within.{rows_of}
use Rattle.rg_bits.specs.Conditions.{assign_of}
use Rattle.rg_bits.proofs.FoldSteps.{fold-turn, fold-done, fold-past, drop_mapped}
use Rattle.rg_bits.proofs.ConditionSteps.{assign-grows, assignment_fits}
use Rattle.rg_bits.proofs.condition.assigned.Goals as goal

pub add_assignment-requires-clause-target : goal.add_assignment-requires-clause-target
add_assignment-requires-clause-target g c =
    let l = c.loop-assign in
    let at = drop_mapped assignment c.args.assigns.now l.assign-index c.assign-item.result (omega arith) c.assign-item.is in
    rw l.invariant.size ((assignment_fits (map assignment c.args.assigns.now) (length c.args.first.items) l.assign-index (assignment c.assign-item.result) _ c.requires.words at).0)

pub add_assignment-requires-clause-words : goal.add_assignment-requires-clause-words
add_assignment-requires-clause-words g c =
    let l = c.loop-assign in
    let at = drop_mapped assignment c.args.assigns.now l.assign-index c.assign-item.result (omega arith) c.assign-item.is in
    rw l.invariant.size ((assignment_fits (map assignment c.args.assigns.now) (length c.args.first.items) l.assign-index (assignment c.assign-item.result) _ c.requires.words at).1)

pub returns-in_err-rows-clause-builds : goal.returns-in_err-rows-clause-builds
returns-in_err-rows-clause-builds g c =
    let l = c.loop-assign in
    let at = drop_mapped assignment c.args.assigns.now l.assign-index c.assign-item.result (omega arith) c.assign-item.is in
    record {
      built = IfOk-from_err c.from_residual.result _ c.from_residual.ensures.0;
      within = IfOk-from_err c.from_residual.result _ c.from_residual.ensures.0;
      extends = Extends-trans l.invariant.extends c.add_assignment.ensures.builds.extends;
      full = λ e. fold-past assign_of (map assignment c.args.assigns.now) l.assign-index (rows_of c.args.first.items) (rows_of l.rows.items) c.args.gates.now l.gates l.invariant.built assign-grows (assignment c.assign-item.result) MOST_VARIABLES at (search rules);
    }

pub loop-assign-preserved : goal.loop-assign-preserved
loop-assign-preserved g c =
    let l = c.loop-assign in
    let at = drop_mapped assignment c.args.assigns.now l.assign-index c.assign-item.result (omega arith) c.assign-item.is in
    record {
      built = fold-turn assign_of (map assignment c.args.assigns.now) l.assign-index (rows_of c.args.first.items) (rows_of l.rows.items) c.args.gates.now l.gates l.invariant.built (assignment c.assign-item.result) (rows_of c.in_ok-rows.rows.items) c.add_assignment.new.gates at c.in_ok-rows.ensures.builds.built;
      extends = Extends-trans l.invariant.extends c.add_assignment.ensures.builds.extends;
      size = c.in_ok-rows.ensures.size ∙ l.invariant.size;
      rows = c.in_ok-rows.ensures.builds.within;
    }

pub returns-clause-builds : goal.returns-clause-builds
returns-clause-builds g c =
    let l = c.loop-assign in
    record {
      built = fold-done assign_of (map assignment c.args.assigns.now) l.assign-index (rows_of c.args.first.items) (rows_of l.rows.items) c.args.gates.now l.gates l.invariant.built (drop_all l.assign-index (map assignment c.args.assigns.now) (omega (arith, length-map c.args.assigns.now assignment)));
      within = l.invariant.rows;
      extends = l.invariant.extends;
      full = λ e. (cc);
    }
