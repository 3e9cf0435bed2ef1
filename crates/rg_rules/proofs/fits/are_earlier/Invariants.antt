use Rattle.std.proofs.Common.{drop, ◌↔◌}
use Rattle.rg_rules.specs.Faults.{AreEarlier}
use Rattle.rg_rules.proofs.fits.are_earlier.Given as goal

abbrev pub invariant-loop-i : goal.invariant-loop-i
invariant-loop-i l = AreEarlier l.k l.premises ↔ AreEarlier l.k (drop l.i-index l.premises)
