use Rattle.std.proofs.Common.{◌≡◌, ◌+◌, ◌++◌, drop}
use Rattle.rg_rows.specs.Within.{rows_of}
use Rattle.rg_rows.specs.Inputs.{free_rows, free_width, total_width}
use Rattle.rg_rows.proofs.input_rows.free_state.Given as goal

abbrev pub invariant-loop-k : goal.invariant-loop-k
invariant-loop-k l = record {
  rows : free_rows (total_width l.words) l.words (rows_of l.first) ≡ rows_of l.rows.items ++ free_rows l.after (drop l.k l.words) (drop l.k (rows_of l.first));
  width : l.after + free_width (drop l.k l.words) ≡ total_width l.words + free_width l.words;
}
