use Rattle.std.proofs.Common.{◌+◌, ◌*◌}
use Rattle.rg_outline_syntax.proofs.parser.Parser.+statements.Given as goal

abbrev pub decreases-block : goal.decreases-block
decreases-block l = 3 * l.depth + 0

abbrev pub decreases-statement : goal.decreases-statement
decreases-statement l = 3 * l.depth + 2

abbrev pub decreases-conditional : goal.decreases-conditional
decreases-conditional l = 3 * l.depth + 1

abbrev pub decreases-while_loop : goal.decreases-while_loop
decreases-while_loop l = 3 * l.depth + 1

abbrev pub decreases-for_each : goal.decreases-for_each
decreases-for_each l = 3 * l.depth + 1
