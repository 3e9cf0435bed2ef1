-- What trees that mention no flagged word keep.
use Rattle.std.proofs.Common.{◌≡◌, ℕ, ◌-◌, ◌^◌, Bool, true, false, not, ◌||◌, List, cond, get_or, Option, Some, None, refl, sym, ap, ◌∙◌}
use Rattle.std.specs.Prelude.{slice_index}
use Rattle.rg_tree.specs.Trees.{Expression, Proposition, number, word, next_word, inverse, binary, shifted, choice, truth, negation, connected, compared}
use Rattle.rg_tree.specs.Meaning.{operated, moved, is_so, joined, value_of, holds}
use Rattle.rg_tree.specs.Typing.{HasWidth, IsTyped}
use Rattle.rg_tree.specs.Primes.{has_next_word, speaks_of_two}
use Rattle.rg_erase.specs.Erased.{staying, new_place, flagged, first_of, mentions, speaks_of, renamed, renamed_formula}
use Rattle.rg_erase.proofs.States.{staying_at, place_within}

pub first_none : {A : Type 0} (a b : Option A) → first_of a b ≡ None → a ≡ None
first_none None b h = refl
first_none (Some x) b h = cc h

pub second_none : {A : Type 0} (a b : Option A) → first_of a b ≡ None → b ≡ None
second_none None b h = h
second_none (Some x) b h = cc h

pub unflagged : (flags : List Bool) (k : ℕ) → flagged flags k ≡ None → get_or flags k false ≡ false
unflagged flags k h = by_flag (get_or flags k false) h
  where
    by_flag : (b : Bool) → cond b (Some k) None ≡ None → b ≡ false
    by_flag true h = cc h
    by_flag false h = refl

pub flagged_is : (flags : List Bool) (k j : ℕ) → flagged flags k ≡ Some j → (get_or flags k false ≡ true)
flagged_is flags k j h = by_flag (get_or flags k false) h
  where
    by_flag : (b : Bool) → cond b (Some k) None ≡ Some j → b ≡ true
    by_flag true h = refl
    by_flag false h = cc h

pub flagged_same : (flags : List Bool) (k j : ℕ) → flagged flags k ≡ Some j → k ≡ j
flagged_same flags k j h = by_flag (get_or flags k false) h
  where
    by_flag : (b : Bool) → cond b (Some k) None ≡ Some j → k ≡ j
    by_flag true h = cc h
    by_flag false h = cc h

-- two states have the same values for the words without a flag
abbrev pub Agree : List Bool → List ℕ → List ℕ → Type 0
Agree flags s t = (k : ℕ) → get_or flags k false ≡ false → slice_index s k ≡ slice_index t k

pub agree_from_staying : (erased : List Bool) (s t : List ℕ) → staying erased s ≡ staying erased t → Agree erased s t
agree_from_staying erased s t e k h =
    sym (staying_at erased s k 0 h) ∙ ap (λ (u : List ℕ). get_or u (new_place erased k) 0) e ∙ staying_at erased t k 0 h

two_ways : (f : ℕ → ℕ → ℕ) (a b x y : ℕ) → a ≡ x → b ≡ y → f a b ≡ f x y
two_ways f a b x y h k = ap (λ z. f z b) h ∙ ap (λ z. f x z) k

two_truths : {A : Type 0} (f : A → A → Bool) (a b x y : A) → a ≡ x → b ≡ y → f a b ≡ f x y
two_truths f a b x y h k = ap (λ z. f z b) h ∙ ap (λ z. f x z) k

chosen : (b c : Bool) (x y u v : ℕ) → b ≡ c → x ≡ u → y ≡ v → cond b x y ≡ cond c u v
chosen b c x y u v h k l = ap (λ z. cond z x y) h ∙ ap (λ z. cond c z y) k ∙ ap (λ z. cond c u z) l

-- a tree that mentions no flagged word has one value where states agree on the others
module _ (now next : List Bool) (s t u v : List ℕ) (first : Agree now s u) (second : Agree next t v) where
  mutual
    pub value_agrees : (e : Expression) → mentions now next e ≡ None → value_of e s t ≡ value_of e u v
    value_agrees (number w n) h = refl
    value_agrees (word k) h = first k (unflagged now k h)
    value_agrees (next_word k) h = second k (unflagged next k h)
    value_agrees (inverse w a) h = ap (λ x. 2 ^ w - 1 - x) (value_agrees a h)
    value_agrees (binary o w a b) h =
        two_ways (operated o w) _ _ _ _ (value_agrees a (first_none _ _ h)) (value_agrees b (second_none (mentions now next a) _ h))
    value_agrees (shifted d w a k) h = ap (λ x. moved d w x k) (value_agrees a h)
    value_agrees (choice f a b) h =
        let rest = second_none (speaks_of now next f) _ h in
        chosen _ _ _ _ _ _ (truth_agrees f (first_none _ _ h)) (value_agrees a (first_none _ _ rest)) (value_agrees b (second_none (mentions now next a) _ rest))

    pub truth_agrees : (f : Proposition) → speaks_of now next f ≡ None → holds f s t ≡ holds f u v
    truth_agrees (truth b) h = refl
    truth_agrees (negation f) h = ap not (truth_agrees f h)
    truth_agrees (connected c f g) h =
        two_truths (joined c) _ _ _ _ (truth_agrees f (first_none _ _ h)) (truth_agrees g (second_none (speaks_of now next f) _ h))
    truth_agrees (compared c a b) h =
        two_truths (is_so c) _ _ _ _ (value_agrees a (first_none _ _ h)) (value_agrees b (second_none (mentions now next a) _ h))

module _ (erased : List Bool) where
  -- over the words that stay it has the same value, there
  mutual
    pub value_renamed : (e : Expression) (s t : List ℕ) → mentions erased erased e ≡ None → value_of (renamed erased e) (staying erased s) (staying erased t) ≡ value_of e s t
    value_renamed (number w n) s t h = refl
    value_renamed (word k) s t h = staying_at erased s k 0 (unflagged erased k h)
    value_renamed (next_word k) s t h = staying_at erased t k 0 (unflagged erased k h)
    value_renamed (inverse w a) s t h = ap (λ x. 2 ^ w - 1 - x) (value_renamed a s t h)
    value_renamed (binary o w a b) s t h =
        two_ways (operated o w) _ _ _ _ (value_renamed a s t (first_none _ _ h)) (value_renamed b s t (second_none (mentions erased erased a) _ h))
    value_renamed (shifted d w a k) s t h = ap (λ x. moved d w x k) (value_renamed a s t h)
    value_renamed (choice f a b) s t h =
        let rest = second_none (speaks_of erased erased f) _ h in
        chosen _ _ _ _ _ _ (truth_renamed f s t (first_none _ _ h)) (value_renamed a s t (first_none _ _ rest)) (value_renamed b s t (second_none (mentions erased erased a) _ rest))

    pub truth_renamed : (f : Proposition) (s t : List ℕ) → speaks_of erased erased f ≡ None → holds (renamed_formula erased f) (staying erased s) (staying erased t) ≡ holds f s t
    truth_renamed (truth b) s t h = refl
    truth_renamed (negation f) s t h = ap not (truth_renamed f s t h)
    truth_renamed (connected c f g) s t h =
        two_truths (joined c) _ _ _ _ (truth_renamed f s t (first_none _ _ h)) (truth_renamed g s t (second_none (speaks_of erased erased f) _ h))
    truth_renamed (compared c a b) s t h =
        two_truths (is_so c) _ _ _ _ (value_renamed a s t (first_none _ _ h)) (value_renamed b s t (second_none (mentions erased erased a) _ h))

  -- it keeps its width
  mutual
    pub width_renamed : (widths : List ℕ) (e : Expression) (w : ℕ) → mentions erased erased e ≡ None → HasWidth widths e w → HasWidth (staying erased widths) (renamed erased e) w
    width_renamed widths (number v n) w h t = t
    width_renamed widths (word k) w h t =
        let stays = unflagged erased k h in (place_within erased widths k stays t.0, staying_at erased widths k 0 stays ∙ t.1)
    width_renamed widths (next_word k) w h t =
        let stays = unflagged erased k h in (place_within erased widths k stays t.0, staying_at erased widths k 0 stays ∙ t.1)
    width_renamed widths (inverse v a) w h t = (t.0, width_renamed widths a w h t.1)
    width_renamed widths (binary o v a b) w h t =
        (t.0, width_renamed widths a w (first_none _ _ h) t.1, width_renamed widths b w (second_none (mentions erased erased a) _ h) t.2)
    width_renamed widths (shifted d v a k) w h t = (t.0, width_renamed widths a w h t.1, t.2)
    width_renamed widths (choice f a b) w h t =
        let rest = second_none (speaks_of erased erased f) _ h in
        (typed_renamed widths f (first_none _ _ h) t.0, width_renamed widths a w (first_none _ _ rest) t.1, width_renamed widths b w (second_none (mentions erased erased a) _ rest) t.2)

    pub typed_renamed : (widths : List ℕ) (f : Proposition) → speaks_of erased erased f ≡ None → IsTyped widths f → IsTyped (staying erased widths) (renamed_formula erased f)
    typed_renamed widths (truth b) h t = tt
    typed_renamed widths (negation f) h t = typed_renamed widths f h t
    typed_renamed widths (connected c f g) h t =
        (typed_renamed widths f (first_none _ _ h) t.0, typed_renamed widths g (second_none (speaks_of erased erased f) _ h) t.1)
    typed_renamed widths (compared c a b) h t =
        (t.0, width_renamed widths a t.0 (first_none _ _ h) t.1, width_renamed widths b t.0 (second_none (mentions erased erased a) _ h) t.2)

  -- and its primes
  mutual
    pub primes_renamed : (e : Expression) → has_next_word (renamed erased e) ≡ has_next_word e
    primes_renamed (number w n) = refl
    primes_renamed (word k) = refl
    primes_renamed (next_word k) = refl
    primes_renamed (inverse w a) = primes_renamed a
    primes_renamed (binary o w a b) = two_truths (λ x y. x || y) _ _ _ _ (primes_renamed a) (primes_renamed b)
    primes_renamed (shifted d w a k) = primes_renamed a
    primes_renamed (choice f a b) =
        two_truths (λ x y. x || y) _ _ _ _ (two_truths (λ x y. x || y) _ _ _ _ (primes_renamed_formula f) (primes_renamed a)) (primes_renamed b)

    pub primes_renamed_formula : (f : Proposition) → speaks_of_two (renamed_formula erased f) ≡ speaks_of_two f
    primes_renamed_formula (truth b) = refl
    primes_renamed_formula (negation f) = primes_renamed_formula f
    primes_renamed_formula (connected c f g) = two_truths (λ x y. x || y) _ _ _ _ (primes_renamed_formula f) (primes_renamed_formula g)
    primes_renamed_formula (compared c a b) = two_truths (λ x y. x || y) _ _ _ _ (primes_renamed a) (primes_renamed b)
