-- Elements of lists by their places, and facts of all elements so far.
use Rattle.std.proofs.Common.{◌≡◌, ◌≢◌, ℕ, ◌+◌, ◌<◌, ◌≤◌, true, false, sym, ◌∙◌, ap, subst, List, [], ◌∷◌, ◌++◌, map, take, length, All, Some, option_map, slice_get, slice_index_or}
use Rattle.std.specs.Str.{bytes_eq}
use Rattle.std.proofs.lemmas.Option.{slice_get-map, slice_get-get_or}
use Rattle.std.proofs.lemmas.Slice.Eq.{bytes_eq-Decides}
use Rattle.std.proofs.lemmas.List.{take_more, take_all, map-append}
use Rattle.std.proofs.lemmas.List.Elements.{All-push}

-- the elements up to one, and that one
pub take_next : {X : Type 0} (xs : List X) (k : ℕ) (x : X) → x ≡ slice_index_or xs k x → k < length xs → take (k + 1) xs ≡ take k xs ++ x ∷ []
take_next xs k x is low = take_more xs k x low ∙ ap (λ y. take k xs ++ y ∷ []) (sym is)

-- what is so of all so far, and of the next, in another view
pub all_next : {X Y : Type 0} (f : X → Y) (P : Y → Type 0) (xs : List X) (k : ℕ) (x : X) → x ≡ slice_index_or xs k x → k < length xs → All P (map f (take k xs)) → P (f x) → All P (map f (take (k + 1) xs))
all_next f P xs k x is low all one = rw (take_next xs k x is low, map-append f (take k xs) (x ∷ [])) (All-push P (map f (take k xs)) (f x) all one)

pub all_step : {X Y : Type 0} (f : X → Y) (P : Y → Type 0) (xs : List X) (k : ℕ) (d : X) → k < length xs → All P (map f (take k xs)) → P (f (slice_index_or xs k d)) → All P (map f (take (k + 1) xs))
all_step f P xs k d low all one = rw (take_more xs k d low, map-append f (take k xs) (slice_index_or xs k d ∷ [])) (All-push P (map f (take k xs)) (f (slice_index_or xs k d)) all one)

-- what is so of all elements up to the end
pub all_of : {X Y : Type 0} (f : X → Y) (P : Y → Type 0) (xs : List X) (k : ℕ) → length xs ≤ k → All P (map f (take k xs)) → All P (map f xs)
all_of f P xs k far all = subst (λ ys. All P (map f ys)) (take_all k xs far) all

-- the element of a view
pub placed : {X Y : Type 0} (f : X → Y) (xs : List X) (k : ℕ) (x : X) → x ≡ slice_index_or xs k x → k < length xs → slice_get (map f xs) k ≡ Some (f x)
placed f xs k x is low = slice_get-map f xs k ∙ ap (λ o. option_map f o) (slice_get-get_or xs k x low ∙ ap (λ y. Some y) (sym is))

-- texts that are equal by the test, or aren't
pub same_text : (xs ys a b : List ℕ) → xs ≡ a → ys ≡ b → true ≡ bytes_eq xs ys → a ≡ b
same_text xs ys a b p q is = sym p ∙ (bytes_eq-Decides xs ys).0 (sym is) ∙ q

pub other_text : (xs ys a b : List ℕ) → xs ≡ a → ys ≡ b → false ≡ bytes_eq xs ys → a ≢ b
other_text xs ys a b p q is = λ same. cc (is ∙ (bytes_eq-Decides xs ys).1 (p ∙ same ∙ sym q))

pub at_place : {X : Type 0} (xs : List X) (k : ℕ) (x : X) → x ≡ slice_index_or xs k x → k < length xs → slice_get xs k ≡ Some x
at_place xs k x is low = slice_get-get_or xs k x low ∙ ap (λ y. Some y) (sym is)
