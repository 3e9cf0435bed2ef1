use Rattle.std.proofs.Common.{◌≡◌, ℕ, ◌<◌, [], get_or, length}
use Rattle.rg_words.specs.Layout.{widths_of}
use Rattle.rg_rows.specs.Rows.{row_value}
use Rattle.rg_rows.specs.Within.{rows_of}
use Rattle.rg_bits.proofs.decode.read_state.Given as goal

abbrev pub invariant-loop-k : goal.invariant-loop-k
invariant-loop-k l = record {
  widths : l.state.widths ≡ widths_of l.words;
  size : length l.state.values ≡ length l.words;
  values : (j : ℕ) → j < l.k → get_or l.state.values j 0 ≡ row_value l.values (get_or (rows_of l.rows) j []);
}
