-- The test of a condition and its truth.
use Rattle.std.proofs.Common.{◌≡◌, ℕ, Bool, true, false, not, ◌&&◌, ◌||◌, cond, nat_eq, ◌⊎◌, inl, inr, List, [], ◌∷◌, length, slice_set, length-set, refl, sym, ap₂, ◌∙◌, subst, arith}
use Rattle.std.proofs.lemmas.Bool.Decides.{nat_tests}
use Rattle.rg_tree.specs.Trees.{Proposition, Assignment}
use Rattle.rg_tree.specs.Meaning.{value_of, holds}
use Rattle.rg_tree.specs.ConditionTrees.{SecondState, same, free, after, assigned, before, reached, all_hold, are_same, goal_holds}
use Rattle.rg_tree.specs.Truth.{AllTrue, TestsSayTruth}

both_left : (a b : Bool) → (a && b) ≡ true → a ≡ true
both_left true b h = refl
both_left false b h = cc h

both_right : (a b : Bool) → (a && b) ≡ true → b ≡ true
both_right true b h = h
both_right false b h = cc h

both_true : (a b : Bool) → a ≡ true → b ≡ true → (a && b) ≡ true
both_true true b h k = k
both_true false b h k = cc h

-- hypotheses
hold_first : (fs : List Proposition) (s t : List ℕ) (b : Bool) → all_hold fs s t b ≡ true → b ≡ true
hold_first [] s t b h = h
hold_first (f ∷ fs) s t b h = both_left b (holds f s t) (hold_first fs s t (b && holds f s t) h)

hold_true : (fs : List Proposition) (s t : List ℕ) (b : Bool) → all_hold fs s t b ≡ true → AllTrue fs s t
hold_true [] s t b h = tt
hold_true (f ∷ fs) s t b h = (both_right b (holds f s t) (hold_first fs s t (b && holds f s t) h), hold_true fs s t (b && holds f s t) h)

true_hold : (fs : List Proposition) (s t : List ℕ) (b : Bool) → b ≡ true → AllTrue fs s t → all_hold fs s t b ≡ true
true_hold [] s t b e h = e
true_hold (f ∷ fs) s t b e h = true_hold fs s t (b && holds f s t) (both_true b (holds f s t) e h.0) h.1

-- no change
same_first : (xs ys : List ℕ) (b : Bool) → are_same xs ys b ≡ true → b ≡ true
same_first (x ∷ xs) (y ∷ ys) b h = both_left b (nat_eq x y) (same_first xs ys (b && nat_eq x y) h)
same_first [] ys b h = h
same_first (x ∷ xs) [] b h = h

equal_numbers : (x y : ℕ) → nat_eq x y ≡ true → x ≡ y
equal_numbers x y h = grind (arith, nat_tests)

equal_test : (x : ℕ) → nat_eq x x ≡ true
equal_test x = grind (arith, nat_tests)

same_equal : (xs ys : List ℕ) (b : Bool) → length xs ≡ length ys → are_same xs ys b ≡ true → xs ≡ ys
same_equal [] [] b e h = refl
same_equal (x ∷ xs) (y ∷ ys) b e h =
    ap₂ (λ z zs. z ∷ zs) (equal_numbers x y (both_right b (nat_eq x y) (same_first xs ys (b && nat_eq x y) h))) (same_equal xs ys (b && nat_eq x y) (omega (arith, e)) h)
same_equal [] (y ∷ ys) b e h = absurd (omega (arith, e))
same_equal (x ∷ xs) [] b e h = absurd (omega (arith, e))

equal_same : (xs : List ℕ) (b : Bool) → b ≡ true → are_same xs xs b ≡ true
equal_same [] b h = h
equal_same (x ∷ xs) b h = equal_same xs (b && nat_eq x x) (both_true b (nat_eq x x) h (equal_test x))

-- assignments change no count of words
length-set_at : (xs : List ℕ) (k v : ℕ) → length (slice_set xs k v) ≡ length xs
length-set_at xs k v = length-set xs k v

length-assigned : (act : List Assignment) (s : List ℕ) → length (assigned act s) ≡ length s
length-assigned [] s = refl
length-assigned (a ∷ act) s = length-assigned act (slice_set s a.target (value_of a.value s s)) ∙ length-set_at s a.target (value_of a.value s s)

length-reached : (second : SecondState) (s t : List ℕ) → length s ≡ length t → length s ≡ length (reached second s t)
length-reached same s t h = refl
length-reached free s t h = h
length-reached (after act) s t h = sym (length-assigned act s)

-- the goal
met : (o g e : Bool) (P : Type 0) → (e ≡ true → P) → cond o (g || e) g ≡ true → (g ≡ true) ⊎ ((o ≡ true) × P)
met o true e P p h = inl refl
met true false e P p h = inr (refl, p h)
met false false e P p h = cc h

reach : (o g e : Bool) (P : Type 0) → (P → e ≡ true) → (g ≡ true) ⊎ ((o ≡ true) × P) → cond o (g || e) g ≡ true
reach true true e P p h = refl
reach true false e P p (inl h) = cc h
reach true false e P p (inr h) = p h.1
reach false g e P p (inl h) = h
reach false g e P p (inr h) = cc (h.0)

-- where the hypotheses hold, the goal does
gives : (a g : Bool) → not (a && not g) ≡ true → a ≡ true → g ≡ true
gives true true h j = refl
gives true false h j = cc h
gives false g h j = cc j

given : (a g : Bool) → (a ≡ true → g ≡ true) → not (a && not g) ≡ true
given true true h = refl
given true false h = h refl
given false g h = refl

pub tests_say_truth : TestsSayTruth
tests_say_truth c s t h =
    let u = reached c.second s t in
    let r = before c.second s t in
    let e : length u ≡ length s = sym (length-reached c.second s t h) in
    let all = all_hold c.hypotheses s r true in
    let g = holds c.goal (cond c.alone u s) u in
    let nothing = are_same u s true in (
      (λ truth hypotheses. met c.or_no_change g nothing (s ≡ u) (λ k. sym (same_equal u s true e k)) (gives all (goal_holds c s u) truth (true_hold c.hypotheses s r true refl hypotheses))),
      (λ truth. given all (goal_holds c s u) (λ k. reach c.or_no_change g nothing (s ≡ u) (λ k. subst (λ v. are_same v s true ≡ true) k (equal_same s true refl)) (truth (hold_true c.hypotheses s r true k)))),
    )
