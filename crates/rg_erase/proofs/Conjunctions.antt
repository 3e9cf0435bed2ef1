-- The conjuncts of a formula, and those that are kept.
use Rattle.std.proofs.Common.{◌≡◌, ℕ, Bool, true, false, ◌&&◌, ◌||◌, List, [], ◌∷◌, ◌++◌, Option, Some, None, refl, sym, ◌∙◌, subst}
use Rattle.rg_words.specs.declared.operators.Connective.TheVariants.{And, Or, Implies, Iff}
use Rattle.rg_tree.specs.Trees.{Proposition, truth, negation, connected, compared}
use Rattle.rg_tree.specs.Meaning.{holds}
use Rattle.rg_tree.specs.Typing.{IsTyped}
use Rattle.rg_tree.specs.Primes.{speaks_of_two}
use Rattle.rg_erase.specs.Erased.{staying, speaks_of, renamed_formula, conjuncts, and_all, all_of, kept_of, kept}
use Rattle.rg_erase.proofs.Mentions.{truth_renamed, typed_renamed, primes_renamed_formula}

-- each of these formulas has a property
abbrev pub Each : (Proposition → Type 0) → List Proposition → Type 0
Each P [] = Unit {0}
Each P (f ∷ fs) = P f × Each P fs

pub each_append : (P : Proposition → Type 0) (fs gs : List Proposition) → Each P fs → Each P gs → Each P (fs ++ gs)
each_append P [] gs h k = k
each_append P (f ∷ fs) gs h k = (h.0, each_append P fs gs h.1 k)

each_front : (P : Proposition → Type 0) (fs gs : List Proposition) → Each P (fs ++ gs) → Each P fs
each_front P [] gs h = tt
each_front P (f ∷ fs) gs h = (h.0, each_front P fs gs h.1)

each_back : (P : Proposition → Type 0) (fs gs : List Proposition) → Each P (fs ++ gs) → Each P gs
each_back P [] gs h = h
each_back P (f ∷ fs) gs h = each_back P fs gs h.1

-- what a conjunction has where its operands do, conjuncts have where it has it, and the other way round
module _ (P : Proposition → Type 0) where
  pub to_each : ((f g : Proposition) → P (connected And f g) → P f × P g) → (f : Proposition) → P f → Each P (conjuncts f)
  to_each split (truth b) h = (h, tt)
  to_each split (negation f) h = (h, tt)
  to_each split (compared c a b) h = (h, tt)
  to_each split (connected And f g) h =
      let both = split f g h in each_append P (conjuncts f) (conjuncts g) (to_each split f both.0) (to_each split g both.1)
  to_each split (connected Or f g) h = (h, tt)
  to_each split (connected Implies f g) h = (h, tt)
  to_each split (connected Iff f g) h = (h, tt)

  pub from_each : ((f g : Proposition) → P f → P g → P (connected And f g)) → (f : Proposition) → Each P (conjuncts f) → P f
  from_each join (truth b) h = h.0
  from_each join (negation f) h = h.0
  from_each join (compared c a b) h = h.0
  from_each join (connected And f g) h =
      join f g (from_each join f (each_front P (conjuncts f) (conjuncts g) h)) (from_each join g (each_back P (conjuncts f) (conjuncts g) h))
  from_each join (connected Or f g) h = h.0
  from_each join (connected Implies f g) h = h.0
  from_each join (connected Iff f g) h = h.0

  -- so has one formula made of them
  pub join_and : ((f g : Proposition) → P f → P g → P (connected And f g)) → (f : Proposition) (gs : List Proposition) → P f → Each P gs → P (and_all f gs)
  join_and join f [] h k = h
  join_and join f (g ∷ gs) h k = join_and join (connected And f g) gs (join f g h k.0) k.1

  pub join_all : P (truth true) → ((f g : Proposition) → P f → P g → P (connected And f g)) → (fs : List Proposition) → Each P fs → P (all_of fs)
  join_all empty join [] h = empty
  join_all empty join (f ∷ fs) h = join_and join f fs h.0 h.1

  split_and : ((f g : Proposition) → P (connected And f g) → P f × P g) → (f : Proposition) (gs : List Proposition) → P (and_all f gs) → P f × Each P gs
  split_and split f [] h = (h, tt)
  split_and split f (g ∷ gs) h =
      let rest = split_and split (connected And f g) gs h in let both = split f g rest.0 in (both.0, (both.1, rest.1))

  pub split_all : ((f g : Proposition) → P (connected And f g) → P f × P g) → (fs : List Proposition) → P (all_of fs) → Each P fs
  split_all split [] h = tt
  split_all split (f ∷ fs) h = split_and split f fs h

-- it holds at two states
abbrev pub HoldsAt : List ℕ → List ℕ → Proposition → Type 0
HoldsAt s t f = holds f s t ≡ true

pub and_split : (a b : Bool) → (a && b) ≡ true → (a ≡ true) × (b ≡ true)
and_split true b h = (refl, h)
and_split false b h = cc h

pub and_join : (a b : Bool) → a ≡ true → b ≡ true → (a && b) ≡ true
and_join true b h k = k
and_join false b h k = cc h

or_split : (a b : Bool) → (a || b) ≡ false → (a ≡ false) × (b ≡ false)
or_split true b h = cc h
or_split false b h = (refl, h)

or_join : (a b : Bool) → a ≡ false → b ≡ false → (a || b) ≡ false
or_join true b h k = cc h
or_join false b h k = k

pub holds_each : (s t : List ℕ) (f : Proposition) → holds f s t ≡ true → Each (HoldsAt s t) (conjuncts f)
holds_each s t f h = to_each (HoldsAt s t) (λ g k both. and_split (holds g s t) (holds k s t) both) f h

pub each_holds : (s t : List ℕ) (f : Proposition) → Each (HoldsAt s t) (conjuncts f) → holds f s t ≡ true
each_holds s t f h = from_each (HoldsAt s t) (λ g k one two. and_join (holds g s t) (holds k s t) one two) f h

-- what is kept of a list: by its first formula
pub kept_stays : (erased : List Bool) (f : Proposition) (fs : List Proposition) → speaks_of erased erased f ≡ None → kept_of erased (f ∷ fs) ≡ renamed_formula erased f ∷ kept_of erased fs
kept_stays erased f fs h = rw h refl

pub kept_goes : (erased : List Bool) (f : Proposition) (fs : List Proposition) (k : ℕ) → speaks_of erased erased f ≡ Some k → kept_of erased (f ∷ fs) ≡ kept_of erased fs
kept_goes erased f fs k h = rw h refl

-- a property of formulas that carries over to those that are kept
pub kept_each : (erased : List Bool) (P Q : Proposition → Type 0) → ((f : Proposition) → speaks_of erased erased f ≡ None → P f → Q (renamed_formula erased f)) → (fs : List Proposition) → Each P fs → Each Q (kept_of erased fs)
kept_each erased P Q over [] h = tt
kept_each erased P Q over (f ∷ fs) h = by_word (speaks_of erased erased f) refl (kept_each erased P Q over fs h.1)
  where
    by_word : (o : Option ℕ) → speaks_of erased erased f ≡ o → Each Q (kept_of erased fs) → Each Q (kept_of erased (f ∷ fs))
    by_word None e rest = subst (Each Q) (sym (kept_stays erased f fs e)) (over f e h.0, rest)
    by_word (Some k) e rest = subst (Each Q) (sym (kept_goes erased f fs k e)) rest

-- where a formula holds, what is kept of it does
pub kept_holds : (erased : List Bool) (s t : List ℕ) (f : Proposition) → holds f s t ≡ true → holds (kept erased f) (staying erased s) (staying erased t) ≡ true
kept_holds erased s t f h =
    join_all (HoldsAt (staying erased s) (staying erased t)) refl (λ g k one two. and_join _ _ one two) (kept_of erased (conjuncts f))
    (kept_each erased (HoldsAt s t) (HoldsAt (staying erased s) (staying erased t)) (λ g e truly. truth_renamed erased g s t e ∙ truly) (conjuncts f) (holds_each s t f h))

-- what is kept is typed, and speaks of one state where the formula does
pub kept_typed : (erased : List Bool) (widths : List ℕ) (f : Proposition) → IsTyped widths f → IsTyped (staying erased widths) (kept erased f)
kept_typed erased widths f h =
    join_all (IsTyped (staying erased widths)) tt (λ g k one two. (one, two)) (kept_of erased (conjuncts f))
    (kept_each erased (IsTyped widths) (IsTyped (staying erased widths)) (λ g e t. typed_renamed erased widths g e t) (conjuncts f) (to_each (IsTyped widths) (λ g k t. t) f h))

pub kept_plain : (erased : List Bool) (f : Proposition) → speaks_of_two f ≡ false → speaks_of_two (kept erased f) ≡ false
kept_plain erased f h =
    join_all (λ g. speaks_of_two g ≡ false) refl (λ g k one two. or_join _ _ one two) (kept_of erased (conjuncts f))
    (kept_each erased (λ g. speaks_of_two g ≡ false) (λ g. speaks_of_two g ≡ false) (λ g e nothing. primes_renamed_formula erased g ∙ nothing) (conjuncts f)
    (to_each (λ g. speaks_of_two g ≡ false) (λ g k nothing. or_split (speaks_of_two g) (speaks_of_two k) nothing) f h))
