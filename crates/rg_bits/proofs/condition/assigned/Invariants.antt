use Rattle.std.proofs.Common.{◌≡◌, drop, map, length}
use Rattle.rg_gates.specs.Extends.{Extends}
use Rattle.rg_tree.specs.Conditions.{assignment}
use Rattle.rg_rows.specs.Build.{fold_of}
use Rattle.rg_rows.specs.Within.{AreRowsIn, rows_of}
use Rattle.rg_bits.specs.Conditions.{assign_of}
use Rattle.rg_bits.proofs.condition.assigned.Given as goal

-- what the rest will build is what all assignments build
abbrev pub invariant-loop-assign : goal.invariant-loop-assign
invariant-loop-assign g l = record {
  built : fold_of assign_of (map assignment l.assigns) (rows_of l.fn.first.items) l.initial.gates ≡ fold_of assign_of (drop l.assign-index (map assignment l.assigns)) (rows_of l.rows.items) l.gates;
  extends : Extends l.initial.gates l.gates;
  size : length l.rows.items ≡ length l.fn.first.items;
  rows : AreRowsIn l.gates (rows_of l.rows.items);
}
