use Rattle.std.proofs.Common.{◌≡◌, ◌+◌, vec_len, sum_by}
use Rattle.rg_floor.proofs.seat.gathered.Given as goal

abbrev pub invariant-loop-seat : goal.invariant-loop-seat
invariant-loop-seat g l = record {
  parts : l.all.parts + vec_len l.seats ≡ vec_len l.fn.seats;
  amount : l.all.amount + sum_by (λ s. s.steps) l.seats.items ≡ sum_by (λ s. s.steps) l.fn.seats.items;
}

abbrev pub decreases-loop-seat : goal.decreases-loop-seat
decreases-loop-seat g l = vec_len l.seats
