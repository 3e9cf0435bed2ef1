use Rattle.std.proofs.Common.{◌≡◌, ◌+◌, ◌++◌, drop}
use Rattle.rg_rows.specs.Within.{rows_of}
use Rattle.rg_rows.specs.Inputs.{first_rows, total_width}
use Rattle.rg_rows.proofs.input_rows.first_state.Given as goal

abbrev pub invariant-loop-k : goal.invariant-loop-k
invariant-loop-k l = record {
  rows : first_rows 0 l.words ≡ rows_of l.rows.items ++ first_rows l.after (drop l.k l.words);
  width : l.after + total_width (drop l.k l.words) ≡ total_width l.words;
}
