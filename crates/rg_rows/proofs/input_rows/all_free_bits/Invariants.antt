use Rattle.std.proofs.Common.{◌≡◌, ◌+◌, drop}
use Rattle.rg_rows.specs.Inputs.{free_width}
use Rattle.rg_rows.proofs.input_rows.all_free_bits.Given as goal

abbrev pub invariant-loop-k : goal.invariant-loop-k
invariant-loop-k l = l.bits + free_width (drop l.k l.words) ≡ free_width l.words
