use Rattle.std.proofs.Common.{vec_len}
use Rattle.rg_build.proofs.frames.+take_expression.Given as goal

abbrev pub decreases-take_expression : goal.decreases-take_expression
decreases-take_expression l = vec_len l.frames.now
