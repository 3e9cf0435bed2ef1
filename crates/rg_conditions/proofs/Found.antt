-- What stands at a number of a list, from 1.
use Rattle.std.proofs.Common.{◌≡◌, ℕ, zero, suc, ◌-◌, ◌<◌, ◌≤◌, List, length, map, get_or, Some, ap, ◌∙◌, arith}
use Rattle.std.specs.Prelude.{slice_get}
use Rattle.std.specs.Option.{option_map}
use Rattle.std.proofs.lemmas.Option.{slice_get-map, slice_get-get_or}
use Rattle.rg_tree.specs.Programs.{nth}

pub nth_later : {X : Type 0} → (xs : List X) (n : ℕ) → 0 < n → nth xs n ≡ slice_get xs (n - 1)
nth_later xs zero h = absurd (omega arith)
nth_later xs (suc n) h = ap (λ k. slice_get xs k) (omega arith)

pub nth-map : {X Y : Type 0} → (f : X → Y) (xs : List X) (n : ℕ) (d : X) → 0 < n → n ≤ length xs → nth (map f xs) n ≡ Some (f (get_or xs (n - 1) d))
nth-map f xs n d low high =
    nth_later (map f xs) n low ∙ slice_get-map f xs (n - 1) ∙ ap (λ o. option_map f o) (slice_get-get_or xs (n - 1) d (omega arith))
