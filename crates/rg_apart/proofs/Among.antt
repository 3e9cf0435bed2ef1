-- What is among a list's elements.
use Rattle.std.proofs.Common.{◌≡◌, ◌∙◌, ℕ, zero, suc, Bool, true, false, cond, List, [], ◌∷◌, ◌++◌, map, Some, ◌⊎◌, inl, inr, ap, sym, subst}
use Rattle.std.specs.Prelude.{slice_get}
use Rattle.std.specs.List.{filter, flat_map}
use Rattle.rg_tree.specs.ConditionTrees.{ConditionTree, ConditionHolds}
use Rattle.rg_tree.specs.RuleConditions.{AllConditionsHold}

abbrev pub Among : {X : Type 0} → X → List X → Type 0
Among x [] = ⊥
Among x (y ∷ ys) = (y ≡ x) ⊎ Among x ys

pub among_front : {X : Type 0} (x : X) (xs ys : List X) → Among x xs → Among x (xs ++ ys)
among_front x [] ys h = absurd h
among_front x (z ∷ xs) ys h = elim h [ inl e ↦ inl e | inr r ↦ inr (among_front x xs ys r) ]

pub among_back : {X : Type 0} (x : X) (xs ys : List X) → Among x ys → Among x (xs ++ ys)
among_back x [] ys h = h
among_back x (z ∷ xs) ys h = inr (among_back x xs ys h)

pub among_at : {X : Type 0} (xs : List X) (i : ℕ) (x : X) → slice_get xs i ≡ Some x → Among x xs
among_at [] i x h = cc h
among_at (y ∷ xs) zero x h = inl (cc h)
among_at (y ∷ xs) (suc i) x h = inr (among_at xs i x h)

pub among_map : {X Y : Type 0} (f : X → Y) (xs : List X) (x : X) → Among x xs → Among (f x) (map f xs)
among_map f [] x h = absurd h
among_map f (y ∷ xs) x h = elim h [ inl e ↦ inl (ap f e) | inr r ↦ inr (among_map f xs x r) ]

pub among_kept : {X : Type 0} (p : X → Bool) (xs : List X) (x : X) → Among x xs → p x ≡ true → Among x (filter p xs)
among_kept p [] x h k = absurd h
among_kept {X} p (y ∷ xs) x h k =
    elim h [
      | inl e ↦ subst (λ (b : Bool). Among x (cond b (y ∷ filter p xs) (filter p xs))) (sym (ap p e ∙ k)) (inl e)
      | inr r ↦ by (p y) (among_kept p xs x r k)
    ]
  where
    by : (b : Bool) → Among x (filter p xs) → Among x (cond b (y ∷ filter p xs) (filter p xs))
    by true rest = inr rest
    by false rest = rest

pub among_flat : {X Y : Type 0} (f : X → List Y) (xs : List X) (x : X) (y : Y) → Among x xs → Among y (f x) → Among y (flat_map f xs)
among_flat f [] x y h k = absurd h
among_flat {X} {Y} f (z ∷ xs) x y h k =
    elim h [
      | inl e ↦ among_front y (f z) (flat_map f xs) (subst (λ (w : X). Among y (f w)) (sym e) k)
      | inr r ↦ among_back y (f z) (flat_map f xs) (among_flat f xs x y r k)
    ]

pub holds_among : (cs : List ConditionTree) (c : ConditionTree) → AllConditionsHold cs → Among c cs → ConditionHolds c
holds_among [] c all h = absurd h
holds_among (d ∷ cs) c all h = elim h [ inl e ↦ subst (λ (x : ConditionTree). ConditionHolds x) e all.0 | inr r ↦ holds_among cs c all.1 r ]
