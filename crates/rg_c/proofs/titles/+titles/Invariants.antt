use Rattle.std.proofs.Common.{length}
use Rattle.rg_c.proofs.titles.+titles.Given as goal

abbrev pub decreases-stands_in : goal.decreases-stands_in
decreases-stands_in l = length l.name.now
