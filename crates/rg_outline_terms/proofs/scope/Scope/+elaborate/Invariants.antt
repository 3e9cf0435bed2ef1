use Rattle.std.proofs.Common.{◌+◌, ◌*◌}
use Rattle.rg_outline_terms.proofs.scope.Scope.+elaborate.Given as goal

abbrev pub decreases-elaborate : goal.decreases-elaborate
decreases-elaborate l = 7 * l.depth + 0

abbrev pub decreases-sorted : goal.decreases-sorted
decreases-sorted l = 7 * l.depth + 1

abbrev pub decreases-number_of : goal.decreases-number_of
decreases-number_of l = 7 * l.depth + 1

abbrev pub decreases-called : goal.decreases-called
decreases-called l = 7 * l.depth + 2

abbrev pub decreases-both : goal.decreases-both
decreases-both l = 7 * l.depth + 2

abbrev pub decreases-under : goal.decreases-under
decreases-under l = 7 * l.depth + 2

abbrev pub decreases-range_of : goal.decreases-range_of
decreases-range_of l = 7 * l.depth + 2

abbrev pub decreases-members : goal.decreases-members
decreases-members l = 7 * l.depth + 2

abbrev pub decreases-chained : goal.decreases-chained
decreases-chained l = 7 * l.depth + 3

abbrev pub decreases-composed : goal.decreases-composed
decreases-composed l = 7 * l.depth + 3

abbrev pub decreases-quantified : goal.decreases-quantified
decreases-quantified l = 7 * l.depth + 3

abbrev pub decreases-selected : goal.decreases-selected
decreases-selected l = 7 * l.depth + 3

abbrev pub decreases-listed_words : goal.decreases-listed_words
decreases-listed_words l = 7 * l.depth + 3

abbrev pub decreases-named : goal.decreases-named
decreases-named l = 7 * l.depth + 4

abbrev pub decreases-unchanged : goal.decreases-unchanged
decreases-unchanged l = 7 * l.depth + 4

abbrev pub decreases-work_out : goal.decreases-work_out
decreases-work_out l = 7 * l.depth + 1
