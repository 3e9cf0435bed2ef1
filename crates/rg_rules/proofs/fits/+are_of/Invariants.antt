use Rattle.std.proofs.Common.{length}
use Rattle.rg_rules.proofs.fits.+are_of.Given as goal

abbrev pub decreases-are_of : goal.decreases-are_of
decreases-are_of l = length l.premises.now
