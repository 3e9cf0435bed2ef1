-- A true condition says of states what its rule asks.
use Rattle.std.proofs.Common.{◌≡◌, ℕ, ◌<◌, Bool, true, false, not, ◌&&◌, ◌||◌, List, [], ◌∷◌, ◌++◌, map, ⊎_elim, ◌⊎◌, inl, inr, refl, sym, subst, ap, ap₂, ◌∙◌, nat_eq, cond, arith}
use Rattle.std.proofs.lemmas.Bool.Decides.{nat_tests}
use Rattle.rg_words.specs.Layout.{Word, widths_of}
use Rattle.rg_words.specs.States.{AreValues, IsState, IsPair}
use Rattle.rg_tree.specs.Trees.{Expression, Proposition, Assignment, number, word, next_word, inverse, binary, shifted, choice, truth, negation, connected, compared}
use Rattle.rg_tree.specs.Meaning.{value_of, holds, operated, moved, is_so, joined}
use Rattle.rg_tree.specs.Primes.{has_next_word, speaks_of_two}
use Rattle.rg_tree.specs.ConditionTrees.{all_hold, are_same, ConditionHolds, assigned}
use Rattle.rg_tree.specs.Traces.{State, holds_at, Inside}
use Rattle.rg_tree.specs.RuleConditions.{RuleCondition, reaches, makes, keeps, allows, as_condition, AllHold, IsMet, AllMet, StepsInside, AllConditionsHold}
use Rattle.rg_tree.proofs.Steps.{agree_self}

-- its formulas of one state have no primed word
abbrev pub IsPlainCondition : RuleCondition → Type 0
IsPlainCondition (keeps p R) = speaks_of_two p ≡ false
IsPlainCondition _ = Unit {0}

abbrev pub ArePlain : List RuleCondition → Type 0
ArePlain [] = Unit {0}
ArePlain (o ∷ os) = IsPlainCondition o × ArePlain os

or_left : (a b : Bool) → (a || b) ≡ false → a ≡ false
or_left true b h = cc h
or_left false b h = refl

or_right : (a b : Bool) → (a || b) ≡ false → b ≡ false
or_right true b h = cc h
or_right false b h = h

-- a tree without primed words reads the first state alone
mutual
  value_first : (e : Expression) (s t u : List ℕ) → has_next_word e ≡ false → value_of e s t ≡ value_of e s u
  value_first (number w n) s t u h = refl
  value_first (word k) s t u h = refl
  value_first (next_word k) s t u h = cc h
  value_first (inverse w a) s t u h = rw (value_first a s t u h) refl
  value_first (binary o w a b) s t u h =
      rw (value_first a s t u (or_left (has_next_word a) (has_next_word b) h), value_first b s t u (or_right (has_next_word a) (has_next_word b) h)) refl
  value_first (shifted d w a k) s t u h = rw (value_first a s t u h) refl
  value_first (choice f a b) s t u h =
      let g = or_left (speaks_of_two f || has_next_word a) (has_next_word b) h in
      rw (holds_first f s t u (or_left (speaks_of_two f) (has_next_word a) g), value_first a s t u (or_right (speaks_of_two f) (has_next_word a) g), value_first b s t u (or_right (speaks_of_two f || has_next_word a) (has_next_word b) h)) refl

  pub holds_first : (f : Proposition) (s t u : List ℕ) → speaks_of_two f ≡ false → holds f s t ≡ holds f s u
  holds_first (truth b) s t u h = refl
  holds_first (negation f) s t u h = rw (holds_first f s t u h) refl
  holds_first (connected c f g) s t u h =
      rw (holds_first f s t u (or_left (speaks_of_two f) (speaks_of_two g) h), holds_first g s t u (or_right (speaks_of_two f) (speaks_of_two g) h)) refl
  holds_first (compared c a b) s t u h =
      rw (value_first a s t u (or_left (has_next_word a) (has_next_word b) h), value_first b s t u (or_right (has_next_word a) (has_next_word b) h)) refl

-- the goal holds, where the hypotheses do
goal_of : (a g : Bool) → not (a && not g) ≡ true → a ≡ true → g ≡ true
goal_of true true h j = refl
goal_of true false h j = cc h
goal_of false g h j = cc j

all_true : (fs : List Proposition) (s : State) (b : Bool) → b ≡ true → AllHold fs s → all_hold fs s s b ≡ true
all_true [] s b e h = e
all_true (f ∷ fs) s b e h = all_true fs s (b && holds f s s) (rw (e, h.0) refl) h.1

so_far_true : (xs ys : List ℕ) (b : Bool) → are_same xs ys b ≡ true → b ≡ true
so_far_true (x ∷ xs) (y ∷ ys) b h = and_left b (nat_eq x y) (so_far_true xs ys (b && nat_eq x y) h)
  where
    and_left : (a b : Bool) → (a && b) ≡ true → a ≡ true
    and_left true b h = refl
    and_left false b h = cc h
so_far_true [] ys b h = h
so_far_true (x ∷ xs) [] b h = h

-- values of the same widths that are the same, one by one
same_values : (ws xs ys : List ℕ) (b : Bool) → AreValues ws xs → AreValues ws ys → are_same xs ys b ≡ true → xs ≡ ys
same_values [] [] [] b p q h = refl
same_values (w ∷ ws) (x ∷ xs) (y ∷ ys) b p q h =
    let here = and_right b (nat_eq x y) (so_far_true xs ys (b && nat_eq x y) h) in
    ap₂ (λ (z : ℕ) (zs : List ℕ). z ∷ zs) (grind (arith, here, nat_tests)) (same_values ws xs ys (b && nat_eq x y) p.1 q.1 h)
  where
    and_right : (a b : Bool) → (a && b) ≡ true → b ≡ true
    and_right true b h = h
    and_right false b h = cc h
same_values [] [] (y ∷ ys) b p q h = absurd q
same_values [] (x ∷ xs) ys b p q h = absurd p
same_values (w ∷ ws) [] ys b p q h = absurd p
same_values (w ∷ ws) (x ∷ xs) [] b p q h = absurd q

-- the goal holds, or nothing changed
inside_of : (R : State → State → Bool) (ws : List ℕ) (s t : State) → AreValues ws s → AreValues ws t → (R s t || are_same t s true) ≡ true → Inside R s t
inside_of R ws s t p q h = by_test (R s t) refl h
  where
    by_test : (b : Bool) → R s t ≡ b → (b || are_same t s true) ≡ true → Inside R s t
    by_test true e h = inl e
    by_test false e h = inr (same_values ws t s true q p h)

self_pair : (words : List Word) (s : State) → IsState words s → IsPair words s s
self_pair words s st = record { first = st; second = st; fixed = agree_self words s }

pub met : (words : List Word) (o : RuleCondition) → IsPlainCondition o → ConditionHolds (as_condition words o) → IsMet words o
met words (reaches given act goal) plain h = λ s st all.
    goal_of (all_hold given s s true) (holds goal (assigned act s) (assigned act s)) (h s s (self_pair words s st)) (all_true given s true refl all)
met words (makes given act goal) plain h = λ s st pair all.
    inside_of (holds goal) (widths_of words) s (assigned act s) st pair.second
    (goal_of (all_hold given s s true) (holds goal s (assigned act s) || are_same (assigned act s) s true) (h s s (self_pair words s st)) (all_true given s true refl all))
met words (keeps p R) plain h = λ s t pair at r.
    goal_of (true && holds p s t && holds R s t) (holds p t t) (h s t pair) (rw (holds_first p s t s plain, at, r) refl)
met words (allows R S) plain h = λ s t pair r.
    inside_of (holds S) (widths_of words) s t pair.first pair.second
    (goal_of (true && holds R s t) (holds S s t || are_same t s true) (h s t pair) (rw r refl))

-- what is inside a smaller relation is inside a larger one
pub inside_more : (words : List Word) (R S : State → State → Bool) → StepsInside words R S → (s t : State) → IsPair words s t → Inside R s t → Inside S s t
inside_more words R S le s t pair h = ⊎_elim (λ r. le s t pair r) (λ e. inr e) h

pub met_front : (words : List Word) (xs ys : List RuleCondition) → AllMet words (xs ++ ys) → AllMet words xs
met_front words [] ys h = tt
met_front words (x ∷ xs) ys h = (h.0, met_front words xs ys h.1)

pub met_back : (words : List Word) (xs ys : List RuleCondition) → AllMet words (xs ++ ys) → AllMet words ys
met_back words [] ys h = h
met_back words (x ∷ xs) ys h = met_back words xs ys h.1

-- true conditions say what their rules ask
pub all_met : (words : List Word) (os : List RuleCondition) → ArePlain os → AllConditionsHold (map (as_condition words) os) → AllMet words os
all_met words [] plain h = tt
all_met words (o ∷ os) plain h = (met words o plain.0 h.0, all_met words os plain.1 h.1)

pub plain_append : (xs ys : List RuleCondition) → ArePlain xs → ArePlain ys → ArePlain (xs ++ ys)
plain_append [] ys p q = q
plain_append (x ∷ xs) ys p q = (p.0, plain_append xs ys p.1 q)
