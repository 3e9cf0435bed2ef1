use Rattle.std.proofs.Common.{◌≡◌, vec_len}
use Rattle.rg_running_tests.proofs.calls.answers.Given as goal

-- no seat is taken away
abbrev pub invariant-loop-call : goal.invariant-loop-call
invariant-loop-call g l = vec_len l.seats ≡ vec_len l.fn.seats
