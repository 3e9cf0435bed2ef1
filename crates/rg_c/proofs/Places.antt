-- Loops over the places of a list.
use Rattle.std.proofs.Common.{◌≡◌, ℕ, zero, suc, ◌+◌, ◌-◌, ◌<◌, ◌≤◌, [], ◌∷◌, arith, ap}
use Rattle.std.specs.List.{range_with_len}

-- the places from one on, where there is one
pub range_more : (i n : ℕ) → i < n → range_with_len i (n - i) ≡ i ∷ range_with_len (i + 1) (n - (i + 1))
range_more i n h =
    let size : n - i ≡ suc (n - (i + 1)) = omega (arith, h) in
    ap (λ m. range_with_len i m) size

-- and where there is none
pub range_over : (i n : ℕ) → n ≤ i → range_with_len i (n - i) ≡ []
range_over i n h =
    let size : n - i ≡ zero = omega (arith, h) in
    ap (λ m. range_with_len i m) size
