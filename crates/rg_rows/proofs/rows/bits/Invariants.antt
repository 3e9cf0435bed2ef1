use Rattle.std.proofs.Common.{◌≡◌, drop}
use Rattle.rg_gates.specs.Extends.{Extends}
use Rattle.rg_rows.specs.Rows.{bits_of}
use Rattle.rg_rows.proofs.RowSteps.{prepended}
use Rattle.rg_rows.proofs.rows.bits.Given as goal
use Rattle.rg_rows.specs.Within.{IsRowIn}

-- what is built, and what the rest will build, is what all bits build
abbrev pub invariant-loop-i : goal.invariant-loop-i
invariant-loop-i g l = record {
  built : bits_of l.operation l.a l.b l.initial.gates ≡ prepended l.row.items (bits_of l.operation (drop l.i l.a) (drop l.i l.b) l.gates);
  extends : Extends l.initial.gates l.gates;
  row : IsRowIn l.gates l.row.items;
}
