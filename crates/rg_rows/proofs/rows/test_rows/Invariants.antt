use Rattle.std.proofs.Common.{◌≡◌, drop}
use Rattle.rg_gates.specs.Extends.{Extends, IsIn}
use Rattle.rg_rows.specs.Rows.{test_of}
use Rattle.rg_rows.proofs.rows.test_rows.Given as goal

-- what the rest will build is what all bits build
abbrev pub invariant-loop-i : goal.invariant-loop-i
invariant-loop-i g l = record {
  built : test_of l.test l.a l.b l.fn.start l.initial.gates ≡ test_of l.test (drop l.i l.a) (drop l.i l.b) l.so_far l.gates;
  extends : Extends l.initial.gates l.gates;
  so_far : IsIn l.gates l.so_far;
}
