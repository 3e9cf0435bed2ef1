use Rattle.std.proofs.Common.{vec_len}
use Rattle.rg_build.proofs.frames.+take_formula.Given as goal

abbrev pub decreases-take_formula : goal.decreases-take_formula
decreases-take_formula l = vec_len l.frames.now
