use Rattle.std.proofs.Common.{length}
use Rattle.rg_outline_meaning.proofs.names.Reader.+chosen.Given as goal

abbrev pub decreases-chosen_value : goal.decreases-chosen_value
decreases-chosen_value l = length l.rest.now
