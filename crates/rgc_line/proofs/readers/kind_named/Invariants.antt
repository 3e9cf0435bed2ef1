use Rattle.std.proofs.Common.{◌≡◌, drop}
use Rattle.std.specs.Prelude.{find}
use Rattle.std.specs.Str.{bytes_eq}
use Rattle.rgc_line.proofs.readers.kind_named.Given as goal

abbrev pub invariant-loop-row : goal.invariant-loop-row
invariant-loop-row l = find (λ row. bytes_eq row.name.now l.name) (drop l.row-index l.rows) ≡ find (λ row. bytes_eq row.name.now l.name) l.rows
