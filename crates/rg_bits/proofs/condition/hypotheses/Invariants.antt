use Rattle.std.proofs.Common.{◌≡◌, drop, map}
use Rattle.rg_gates.specs.Extends.{Extends, IsIn}
use Rattle.rg_gates.specs.declared.Lit.TheVariants.{True}
use Rattle.rg_tree.specs.View.{formula}
use Rattle.rg_rows.specs.Build.{fold_of}
use Rattle.rg_rows.specs.Within.{rows_of}
use Rattle.rg_bits.specs.Conditions.{hypothesis_of}
use Rattle.rg_bits.proofs.condition.hypotheses.Given as goal

-- what the rest will build is what all hypotheses build
abbrev pub invariant-loop-f : goal.invariant-loop-f
invariant-loop-f g l = record {
  built : fold_of (hypothesis_of (rows_of l.first) (rows_of l.second)) (map formula l.fs) True l.initial.gates ≡ fold_of (hypothesis_of (rows_of l.first) (rows_of l.second)) (drop l.f-index (map formula l.fs)) l.held l.gates;
  extends : Extends l.initial.gates l.gates;
  held : IsIn l.gates l.held;
}
