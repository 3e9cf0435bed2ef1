use Rattle.rgc_commands.specs.Code.{AreAmong}
use Rattle.rgc_commands.proofs.code.kinds_of.Given as goal

-- those that are left are some of those that were found
abbrev pub invariant-loop : goal.invariant-loop
invariant-loop l = AreAmong l.some.items l.apart
