use Rattle.std.proofs.Common.{length}
use Rattle.rg_outline_meaning.proofs.same.+is_step.Given as goal

abbrev pub decreases-is_step : goal.decreases-is_step
decreases-is_step l = length l.read.now
