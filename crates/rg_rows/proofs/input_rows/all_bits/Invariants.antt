use Rattle.std.proofs.Common.{◌≡◌, ◌+◌, drop}
use Rattle.rg_rows.specs.Inputs.{total_width}
use Rattle.rg_rows.proofs.input_rows.all_bits.Given as goal

abbrev pub invariant-loop-k : goal.invariant-loop-k
invariant-loop-k l = l.bits + total_width (drop l.k l.words) ≡ total_width l.words
