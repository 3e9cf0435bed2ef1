-- Loops over the places of a list, and the name of an array.
use Rattle.std.proofs.Common.{◌≡◌, ℕ, zero, suc, ◌+◌, ◌-◌, ◌<◌, ◌≤◌, List, [], ◌∷◌, length, arith, ap}
use Rattle.std.specs.List.{range_with_len}
use Rattle.std.specs.Str.{IsCharBoundary}
use Rattle.std.proofs.lemmas.Str.{IsCharBoundary-from_ascii}
use Rattle.rg_words.specs.Names.{IsName}
use Rattle.rg_words.proofs.Spelling.{IsName-IsAscii}

-- the places from one on, where there is one
pub range_more : (i n : ℕ) → i < n → range_with_len i (n - i) ≡ i ∷ range_with_len (i + 1) (n - (i + 1))
range_more i n h =
    let size : n - i ≡ suc (n - (i + 1)) = omega (arith, h) in
    ap (λ m. range_with_len i m) size

-- and where there is none
pub range_over : (i n : ℕ) → n ≤ i → range_with_len i (n - i) ≡ []
range_over i n h =
    let size : n - i ≡ zero = omega (arith, h) in
    ap (λ m. range_with_len i m) size

-- a name may be cut before its last two characters
pub base_is_text : (name : List ℕ) → IsName name → IsCharBoundary name (length name - 2)
base_is_text name h = IsCharBoundary-from_ascii name (length name - 2) (IsName-IsAscii name h) (omega arith)
