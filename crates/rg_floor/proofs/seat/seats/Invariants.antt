use Rattle.std.proofs.Common.{◌≡◌, ◌+◌, map, vec_len, sum_by}
use Rattle.rg_floor.specs.Turns.{numbers_to}
use Rattle.rg_floor.proofs.seat.seats.Given as goal

abbrev pub invariant-loop-i : goal.invariant-loop-i
invariant-loop-i g l = record {
  parts_left : l.rest.parts + l.i ≡ l.count;
  none_counted : l.rest.amount ≡ 0;
  made : vec_len l.seats ≡ l.i;
  parts : map (λ s. s.part) l.seats.items ≡ numbers_to l.i;
  counts : sum_by (λ s. s.steps) l.seats.items ≡ 0;
}
