use Rattle.rg_outline_meaning.proofs.ranges.+push_numbers.Given as goal

abbrev pub decreases-push_numbers : goal.decreases-push_numbers
decreases-push_numbers l = l.count
