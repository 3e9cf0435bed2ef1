-- Tests over lists.
use Rattle.std.proofs.Common.{◌≡◌, ◌∙◌, Bool, true, false, List, [], ◌∷◌, Some, None, cond, refl, ap}
use Rattle.std.specs.List.{All, Contains, list_any, find}
use Rattle.std.proofs.lemmas.Bool.{or_parts, or_from}
use Rattle.std.proofs.lemmas.List.Elements.{All-nil, All-cons, All-head, All-tail}
use Rattle.std.proofs.lemmas.List.Folds.{list_any_at}

module _ {X : Type 0} (p : X → Bool) where
  -- what passes nowhere fails everywhere
  pub all_fail : (xs : List X) → list_any p xs ≡ false → All (λ x. p x ≡ false) xs
  all_fail [] h = All-nil (λ x. p x ≡ false)
  all_fail (x ∷ xs) h = let parts = or_parts (p x) (list_any p xs) h in All-cons (λ y. p y ≡ false) x xs parts.0 (all_fail xs parts.1)

  pub none_passes : (xs : List X) → All (λ x. p x ≡ false) xs → list_any p xs ≡ false
  none_passes [] h = refl
  none_passes (x ∷ xs) h = or_from (p x) (list_any p xs) (All-head (λ y. p y ≡ false) x xs h) (none_passes xs (All-tail (λ y. p y ≡ false) x xs h))

  -- what passes at an element passes at some
  pub passes_at : (xs : List X) (x : X) → Contains xs x → p x ≡ true → list_any p xs ≡ true
  passes_at xs x c h = list_any_at p xs c.0 x c.1 (ap p c.2 ∙ h)

  -- where nothing is found, nothing passes
  pub found_none : (xs : List X) → find p xs ≡ None → list_any p xs ≡ false
  found_none [] h = refl
  found_none (y ∷ xs) h = by_flag (p y) refl h (found_none xs)
    where
      by_flag : (b : Bool) → p y ≡ b → cond b (Some y) (find p xs) ≡ None → (find p xs ≡ None → list_any p xs ≡ false) → list_any p (y ∷ xs) ≡ false
      by_flag true e k rest = cc k
      by_flag false e k rest = or_from (p y) (list_any p xs) e (rest k)
