use Rattle.std.proofs.Common.{◌+◌, ◌*◌}
use Rattle.rg_outline.proofs.expansion.Expansion.+deriving.Given as goal

abbrev pub decreases-derive_block : goal.decreases-derive_block
decreases-derive_block l = 2 * l.depth + 0

abbrev pub decreases-derive_statement : goal.decreases-derive_statement
decreases-derive_statement l = 2 * l.depth + 1
