use Rattle.std.proofs.Common.{length}
use Rattle.rg_rules.proofs.fits.+are_chained.Given as goal

abbrev pub decreases-are_chained : goal.decreases-are_chained
decreases-are_chained l = length l.premises.now
