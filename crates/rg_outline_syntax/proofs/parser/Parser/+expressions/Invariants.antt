use Rattle.std.proofs.Common.{◌+◌, ◌*◌}
use Rattle.rg_outline_syntax.proofs.parser.Parser.+expressions.Given as goal

abbrev pub decreases-climb : goal.decreases-climb
decreases-climb l = 7 * l.depth + 1

abbrev pub decreases-separated : goal.decreases-separated
decreases-separated l = 7 * l.depth + 2

abbrev pub decreases-range : goal.decreases-range
decreases-range l = 7 * l.depth + 3

abbrev pub decreases-brackets : goal.decreases-brackets
decreases-brackets l = 7 * l.depth + 4

abbrev pub decreases-bound : goal.decreases-bound
decreases-bound l = 7 * l.depth + 4

abbrev pub decreases-word : goal.decreases-word
decreases-word l = 7 * l.depth + 5

abbrev pub decreases-named : goal.decreases-named
decreases-named l = 7 * l.depth + 5

abbrev pub decreases-closed : goal.decreases-closed
decreases-closed l = 7 * l.depth + 5

abbrev pub decreases-words : goal.decreases-words
decreases-words l = 7 * l.depth + 6

abbrev pub decreases-leaf : goal.decreases-leaf
decreases-leaf l = 7 * l.depth + 6

abbrev pub decreases-unit : goal.decreases-unit
decreases-unit l = 7 * l.depth + 7

abbrev pub decreases-chosen : goal.decreases-chosen
decreases-chosen l = 7 * l.depth + 2
