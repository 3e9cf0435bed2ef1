use Rattle.std.proofs.Common.{length}
use Rattle.rg_outline_meaning.proofs.selected.+want_within.Given as goal

abbrev pub decreases-want_within : goal.decreases-want_within
decreases-want_within l = length l.indices.now
