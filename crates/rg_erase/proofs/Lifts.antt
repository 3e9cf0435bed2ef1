-- Starts and steps of the environment that a program without some of its words has, in the program itself.
use Rattle.std.proofs.Common.{◌≡◌, ℕ, zero, suc, Bool, true, false, not, List, [], ◌∷◌, get_or, None, refl, sym, ap, ◌∙◌, subst, inl, inr, ⊎_elim}
use Rattle.std.proofs.lemmas.Nat.{pow_pos}
use Rattle.rg_words.specs.Layout.{Word, widths_of, fixed_of}
use Rattle.rg_words.specs.States.{AreValues, IsState, IsPair}
use Rattle.rg_tree.specs.Trees.{Expression, Proposition}
use Rattle.rg_tree.specs.Meaning.{value_of, holds}
use Rattle.rg_tree.specs.Typing.{HasWidth, IsTyped}
use Rattle.rg_tree.specs.Traces.{State, holds_at, Inside}
use Rattle.rg_tree.proofs.Widths.{values_within}
use Rattle.rg_erase.specs.Erased.{staying, is_erased, conjuncts, kept_of, kept}
use Rattle.rg_erase.specs.Faults.{undefined, in_pre, in_rely, erased_free}
use Rattle.rg_erase.proofs.States.{staying_map, put_back, put_back_values, put_back_stays, put_back_same, put_back_pair}
use Rattle.rg_erase.proofs.Mentions.{Agree, agree_from_staying, value_agrees}
use Rattle.rg_erase.proofs.Conjunctions.{Each, HoldsAt, to_each, split_all, and_split, each_holds}
use Rattle.rg_erase.proofs.Defined.{lifted, staying_lifted, values_lifted, given_lifted, all_hold, fixed_lifted}

-- of erased words those that aren't fixed are erased, and aren't fixed
free_erased : (erased : List Bool) (words : List Word) (k : ℕ) → get_or (erased_free erased words) k false ≡ true → is_erased erased k ≡ true
free_erased erased [] k h = cc h
free_erased [] (w ∷ ws) zero h = cc h
free_erased [] (w ∷ ws) (suc k) h = free_erased [] ws k h
free_erased (e ∷ es) (w ∷ ws) zero h = (and_split e (not w.fixed) h).0
free_erased (e ∷ es) (w ∷ ws) (suc k) h = free_erased es ws k h

not_true : (b : Bool) → not b ≡ true → b ≡ false
not_true true h = cc h
not_true false h = refl

free_unfixed : (erased : List Bool) (words : List Word) (k : ℕ) → get_or (erased_free erased words) k false ≡ true → get_or (fixed_of words) k false ≡ false
free_unfixed erased [] k h = cc h
free_unfixed [] (w ∷ ws) zero h = cc h
free_unfixed [] (w ∷ ws) (suc k) h = free_unfixed [] ws k h
free_unfixed (e ∷ es) (w ∷ ws) zero h = not_true w.fixed (and_split e (not w.fixed) h).1
free_unfixed (e ∷ es) (w ∷ ws) (suc k) h = free_unfixed es ws k h

-- a state in which all words are 0
abbrev zeros_of : List ℕ → List ℕ
zeros_of [] = []
zeros_of (w ∷ ws) = 0 ∷ zeros_of ws

zeros_values : (ws : List ℕ) → AreValues ws (zeros_of ws)
zeros_values [] = tt
zeros_values (w ∷ ws) = (pow_pos w, zeros_values ws)

module _ (erased : List Bool) (words : List Word) where
  abbrev widths : List ℕ
  widths = widths_of words

  left_values : (s : State) → IsState (staying erased words) s → AreValues (staying erased widths) s
  left_values s h = subst (λ (ws : List ℕ). AreValues ws s) (sym (staying_map (λ w. w.width) erased words)) h

  typed_conjuncts : (f : Proposition) → IsTyped widths f → Each (IsTyped widths) (conjuncts f)
  typed_conjuncts f t = to_each (IsTyped widths) (λ g k h. h) f t

  kept_conjuncts : (f : Proposition) (s t : State) → holds (kept erased f) s t ≡ true → Each (HoldsAt s t) (kept_of erased (conjuncts f))
  kept_conjuncts f s t h = split_all (HoldsAt s t) (λ g k both. and_split (holds g s t) (holds k s t) both) (kept_of erased (conjuncts f)) h

  -- a start inside what is kept of the pre is what stays of one inside the pre
  module _ (pre : Proposition) (defined : undefined erased (in_pre erased) [] (conjuncts pre) ≡ None) (typed : IsTyped widths pre) where
    pub record Start (s : State) : Type 0 where
      pub state : State
      pub is_state : IsState words state
      pub stays : staying erased state ≡ s
      pub inside : holds_at pre state ≡ true

    pub start_of : (s : State) → IsState (staying erased words) s → holds_at (kept erased pre) s ≡ true → Start s
    start_of s st h =
        let zeros = zeros_of widths in
        let base = put_back erased zeros s in
        let base_state : AreValues widths base = put_back_values erased widths zeros s (zeros_values widths) (left_values s st) in
        let v : Expression → ℕ = λ e. value_of e base base in
        let within = λ (e : Expression) (w : ℕ) (t : HasWidth widths e w). values_within widths base base e w t base_state base_state in
        let u = lifted (in_pre erased) v (conjuncts pre) base in
        let stays : staying erased u ≡ s = staying_lifted (in_pre erased) erased (λ k e. e) v (conjuncts pre) base ∙ put_back_stays erased widths zeros s (zeros_values widths) (left_values s st) in
        let u_state : AreValues widths u = values_lifted (in_pre erased) erased (λ k e. e) widths v within (conjuncts pre) base (typed_conjuncts pre typed) base_state in
        let given = given_lifted (in_pre erased) erased (λ k e. e) widths v within [] (conjuncts pre) base defined (typed_conjuncts pre typed) base_state in
        let same = staying_lifted (in_pre erased) erased (λ k e. e) v (conjuncts pre) base in
        let agree : Agree erased base u = agree_from_staying erased base u (sym same) in
        let kept_there = subst (λ (t : State). holds (kept erased pre) t t ≡ true) (sym stays) h in
        record {
          state = u;
          is_state = u_state;
          stays = stays;
          inside = each_holds u u pre (all_hold (in_pre erased) erased (λ k e. e) v u u (λ e. refl) (λ e n. value_agrees erased erased base base u u agree agree e n) [] (conjuncts pre) defined given
              (kept_conjuncts pre (staying erased u) (staying erased u) kept_there));
        }

  -- a step of the environment between states that stay is what stays of one, which is inside the rely where that one is inside what is kept of it
  module _ (rely : Proposition) (defined : undefined erased (in_rely erased words) [] (conjuncts rely) ≡ None) (typed : IsTyped widths rely) where
    pub record Move (s t : State) : Type 0 where
      pub after : State
      pub stays : staying erased after ≡ t
      pub pair : IsPair words s after
      pub inside : Inside (holds (kept erased rely)) (staying erased s) t → Inside (holds rely) s after

    -- where it isn't inside what is kept of the rely, it has to change nothing
    idle : (s t : State) → IsState words s → IsPair (staying erased words) (staying erased s) t → holds (kept erased rely) (staying erased s) t ≡ false → Move s t
    idle s t st pair out_of = record {
      after = put_back erased s t;
      stays = put_back_stays erased widths s t st (left_values t pair.second);
      pair = put_back_pair erased words s t st pair;
      inside = λ h. ⊎_elim (λ truly. cc (truly, out_of)) (λ (same : t ≡ staying erased s). inr (ap (λ (x : State). put_back erased s x) same ∙ put_back_same erased s)) h;
    }

    moved : (s t : State) → IsState words s → IsPair (staying erased words) (staying erased s) t → holds (kept erased rely) (staying erased s) t ≡ true → Move s t
    moved s t st pair within_it =
        let d = in_rely erased words in
        let base = put_back erased s t in
        let back = put_back_pair erased words s t st pair in
        let v : Expression → ℕ = λ e. value_of e s base in
        let within = λ (e : Expression) (w : ℕ) (ty : HasWidth widths e w). values_within widths s base e w ty st back.second in
        let u = lifted d v (conjuncts rely) base in
        let same = staying_lifted d erased (free_erased erased words) v (conjuncts rely) base in
        let stays : staying erased u ≡ t = same ∙ put_back_stays erased widths s t st (left_values t pair.second) in
        let given = given_lifted d erased (free_erased erased words) widths v within [] (conjuncts rely) base defined (typed_conjuncts rely typed) back.second in
        let u_state : AreValues widths u = values_lifted d erased (free_erased erased words) widths v within (conjuncts rely) base (typed_conjuncts rely typed) back.second in
        let agree : Agree erased base u = agree_from_staying erased base u (sym same) in
        let kept_there = subst (λ (x : State). holds (kept erased rely) (staying erased s) x ≡ true) (sym stays) within_it in
        record {
          after = u;
          stays = stays;
          pair = record {
            first = st;
            second = u_state;
            fixed = fixed_lifted d erased (free_erased erased words) words v within (free_unfixed erased words) (conjuncts rely) s base (typed_conjuncts rely typed) back.second back.fixed;
          };
          inside = λ h. inl (each_holds s u rely (all_hold d erased (free_erased erased words) v s u (λ e. cc e) (λ e n. value_agrees [] erased s base s u (λ k e. refl) agree e n) [] (conjuncts rely) defined given
              (kept_conjuncts rely (staying erased s) (staying erased u) kept_there)));
        }

    pub move_of : (s t : State) → IsState words s → IsPair (staying erased words) (staying erased s) t → Move s t
    move_of s t st pair = by_test (holds (kept erased rely) (staying erased s) t) refl
      where
        by_test : (b : Bool) → holds (kept erased rely) (staying erased s) t ≡ b → Move s t
        by_test true e = moved s t st pair e
        by_test false e = idle s t st pair e
