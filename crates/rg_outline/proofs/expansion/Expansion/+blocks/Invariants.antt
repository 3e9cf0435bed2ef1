use Rattle.std.proofs.Common.{◌+◌, ◌*◌}
use Rattle.rg_outline.proofs.expansion.Expansion.+blocks.Given as goal

abbrev pub decreases-block_of : goal.decreases-block_of
decreases-block_of l = 3 * l.depth + 0

abbrev pub decreases-repeat : goal.decreases-repeat
decreases-repeat l = 3 * l.depth + 1

abbrev pub decreases-statement_of : goal.decreases-statement_of
decreases-statement_of l = 3 * l.depth + 1

abbrev pub decreases-take_items : goal.decreases-take_items
decreases-take_items l = 3 * l.depth + 2

abbrev pub decreases-use_statements : goal.decreases-use_statements
decreases-use_statements l = 3 * l.depth + 1
