use Rattle.std.proofs.Common.{◌≡◌, ◌-◌, drop, length}
use Rattle.rg_rows.specs.Rows.{row_value}
use Rattle.rg_bits.proofs.decode.row_number.Given as goal

-- the high bits are read
abbrev pub invariant-loop-i : goal.invariant-loop-i
invariant-loop-i l = l.number ≡ row_value l.values (drop (length l.row - l.i) l.row)
