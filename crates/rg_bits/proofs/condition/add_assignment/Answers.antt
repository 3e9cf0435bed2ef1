use Rattle.std.proofs.Common.{set}
use Rattle.rg_tree.specs.View.{expression}
use Rattle.rg_rows.specs.Build.{give}
use Rattle.rg_rows.specs.Within.{rows_of}
use Rattle.rg_bits.specs.Formulas.{row_of}
use Rattle.rg_bits.specs.Conditions.{assign_of}
use Rattle.rg_bits.proofs.TreeSteps.{AreRowsIn-extends}
use Rattle.rg_bits.proofs.ConditionSteps.{rows_of-set, set_in}
use Rattle.rg_rows.proofs.Building.{stopped, went_on, gave, same_count}
use Rattle.rg_bits.proofs.condition.add_assignment.Goals as goal

pub returns-in_err-row-clause-builds : goal.returns-in_err-row-clause-builds
unfolding assign_of
returns-in_err-row-clause-builds g c = stopped _ c.in_err-row.ensures c.from_residual.ensures (rw c.deref.ensures.value (same_count _))

pub returns-clause-builds : goal.returns-clause-builds
unfolding assign_of
returns-clause-builds g c =
    let rows = c.args.rows.items in
    let k = c.args.assign.now.word in
    went_on (row_of (expression c.args.assign.now.value) (rows_of rows) (rows_of rows)) (λ r. give (set (rows_of rows) k r)) (rw c.deref.ensures.value at c.in_ok-row.ensures.built) c.assigned_row.ensures.extends
    (gave _ (rows_of-set rows k c.in_ok-row.row) (set_in c.assigned_row.new.gates rows k c.in_ok-row.row (AreRowsIn-extends c.assigned_row.ensures.extends c.requires.rows) c.in_ok-row.ensures.within))
