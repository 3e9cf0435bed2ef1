use Rattle.std.proofs.Common.{◌+◌, ◌*◌}
use Rattle.rg_outline.proofs.expansion.Expansion.+printing.Given as goal

abbrev pub decreases-push_block : goal.decreases-push_block
decreases-push_block l = 2 * l.depth + 0

abbrev pub decreases-push_statement : goal.decreases-push_statement
decreases-push_statement l = 2 * l.depth + 1
