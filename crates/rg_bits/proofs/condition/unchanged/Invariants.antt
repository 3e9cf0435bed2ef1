use Rattle.std.proofs.Common.{◌≡◌, drop}
use Rattle.std.specs.List.{zip}
use Rattle.rg_gates.specs.Extends.{Extends, IsIn}
use Rattle.rg_gates.specs.declared.Lit.TheVariants.{True}
use Rattle.rg_rows.specs.Build.{fold_of}
use Rattle.rg_rows.specs.Within.{rows_of}
use Rattle.rg_bits.specs.Conditions.{same_word_of}
use Rattle.rg_bits.proofs.condition.unchanged.Given as goal

-- what the rest will build is what all words build
abbrev pub invariant-loop-i : goal.invariant-loop-i
invariant-loop-i g l = record {
  built : fold_of same_word_of (zip (rows_of l.after) (rows_of l.before)) True l.initial.gates ≡ fold_of same_word_of (drop l.i (zip (rows_of l.after) (rows_of l.before))) l.same l.gates;
  extends : Extends l.initial.gates l.gates;
  same : IsIn l.gates l.same;
}
