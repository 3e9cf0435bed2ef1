use Rattle.std.proofs.Common.{◌≡◌}
use Rattle.rg_running_tests.proofs.follow.does_all.Given as goal

-- the machine's words are those of the program
abbrev pub invariant-loop-who : goal.invariant-loop-who
invariant-loop-who l = l.config.words ≡ l.read.layout
