use Rattle.std.proofs.Common.{◌≡◌, drop}
use Rattle.rg_gates.specs.Extends.{Extends, IsIn}
use Rattle.rg_rows.specs.Rows.{sum_of}
use Rattle.rg_rows.proofs.RowSteps.{prepended}
use Rattle.rg_rows.proofs.rows.sum.Given as goal
use Rattle.rg_rows.specs.Within.{IsRowIn}

-- what is built, and what the rest will build, is what all bits build
abbrev pub invariant-loop-i : goal.invariant-loop-i
invariant-loop-i g l = record {
  built : sum_of l.a l.b l.fn.carry l.initial.gates ≡ prepended l.row.items (sum_of (drop l.i l.a) (drop l.i l.b) l.next l.gates);
  extends : Extends l.initial.gates l.gates;
  row : IsRowIn l.gates l.row.items;
  next : IsIn l.gates l.next;
}
