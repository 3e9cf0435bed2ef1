use Rattle.std.proofs.Common.{◌≡◌, ◌+◌, vec_len}
use Rattle.rg_runner.proofs.threads.join_workers.Given as goal

-- each worker left its seat
abbrev pub invariant-loop-worker : goal.invariant-loop-worker
invariant-loop-worker g l = vec_len l.seats + vec_len l.workers ≡ vec_len l.fn.workers

abbrev pub decreases-loop-worker : goal.decreases-loop-worker
decreases-loop-worker g l = vec_len l.workers
