-- What stands at a number of a list.
use Rattle.std.proofs.Common.{◌≡◌, ℕ, zero, suc, ◌+◌, ◌-◌, ◌<◌, ◌≤◌, List, ◌∷◌, length, map, drop, get_or, add-one, Some, ap, ◌∙◌, sym, arith, []}
use Rattle.std.specs.Prelude.{slice_get}
use Rattle.std.proofs.lemmas.Option.{slice_get-get_or}
use Rattle.std.proofs.Math.Seq.{drop-cons}
use Rattle.rg_tree.specs.Programs.{nth}
pub use Rattle.rg_conditions.proofs.Found.{nth-map}
use Rattle.rg_conditions.proofs.Found.{nth_later}

-- what stands at a place, and what stands after it
pub here : {X : Type 0} (xs : List X) (i : ℕ) (x : X) → i < length xs → x ≡ get_or xs i x → drop i xs ≡ x ∷ drop (i + 1) xs
here xs i x less at = drop-cons xs i x less ∙ ap (λ y. y ∷ drop (suc i) xs) (sym at) ∙ ap (λ j. x ∷ drop j xs) (sym (add-one i))

pub nth-at : {X Y : Type 0} → (f : X → Y) (xs : List X) (i n : ℕ) (x : X) → n ≡ i + 1 → i < length xs → x ≡ get_or xs i x → nth (map f xs) n ≡ Some (f x)
nth-at f xs i n x next less at =
    let back : n - 1 ≡ i = omega arith in
    nth-map f xs n x (omega arith) (omega arith) ∙ ap (λ k. Some (f (get_or xs k x))) back ∙ ap (λ y. Some (f y)) (sym at)

pub nth_least : {X : Type 0} (xs : List X) (n : ℕ) (x : X) → nth xs n ≡ Some x → 1 ≤ n
nth_least xs zero x h = cc h
nth_least xs (suc n) x h = omega arith

get_less : {X : Type 0} (xs : List X) (i : ℕ) (x : X) → slice_get xs i ≡ Some x → suc i ≤ length xs
get_less [] i x e = cc e
get_less (y ∷ ys) zero x e = omega arith
get_less (y ∷ ys) (suc i) x e = omega (arith, get_less ys i x e)

pub nth_most : {X : Type 0} (xs : List X) (n : ℕ) (x : X) → nth xs n ≡ Some x → n ≤ length xs
nth_most xs zero x h = omega arith
nth_most xs (suc n) x h = get_less xs n x h

pub nth-get : {X : Type 0} → (xs : List X) (n : ℕ) (d : X) → 0 < n → n ≤ length xs → nth xs n ≡ Some (get_or xs (n - 1) d)
nth-get xs n d low high = nth_later xs n low ∙ slice_get-get_or xs (n - 1) d (omega arith)

pub ruleset numbers = (nth_least, nth_most, nth-get)
