use Rattle.std.proofs.Common.{◌≡◌, All, None, vec_len}
use Rattle.rg_pool.proofs.dealing.empty_places.Given as goal

abbrev pub invariant-loop : goal.invariant-loop
invariant-loop g l = record {
  len : vec_len l.places ≡ l.counter;
  empty : All (λ a. a ≡ None) l.places.items;
}
