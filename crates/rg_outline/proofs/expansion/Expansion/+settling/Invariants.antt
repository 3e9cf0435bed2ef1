use Rattle.std.proofs.Common.{◌+◌, ◌*◌}
use Rattle.rg_outline.proofs.expansion.Expansion.+settling.Given as goal

abbrev pub decreases-settle : goal.decreases-settle
decreases-settle l = 3 * l.depth + 0

abbrev pub decreases-settle_branch : goal.decreases-settle_branch
decreases-settle_branch l = 3 * l.depth + 1

abbrev pub decreases-settle_statement : goal.decreases-settle_statement
decreases-settle_statement l = 3 * l.depth + 2
