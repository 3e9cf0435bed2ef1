-- States that give erased words the values that equations tell.
use Rattle.std.proofs.Common.{◌≡◌, ◌≢◌, ℕ, suc, ◌<◌, ◌^◌, Bool, true, false, ◌||◌, List, [], ◌∷◌, cond, length, get_or, Option, Some, None, refl, sym, ap, ◌∙◌, subst, arith}
use Rattle.std.specs.Prelude.{is_none, slice_index, slice_set, option_and_then, nat_eq}
use Rattle.std.proofs.lemmas.List.{get_or-set_same, get_or-set_other}
use Rattle.std.proofs.lemmas.Bool.Decides.{nat_tests}
use Rattle.rg_words.specs.Layout.{Word, widths_of, fixed_of}
use Rattle.rg_words.specs.States.{AreValues, IsState, AgreeOnFixed}
use Rattle.rg_words.specs.declared.operators.Comparison.TheVariants.{Equal, NotEqual, Less, LessOrEqual, Greater, GreaterOrEqual}
use Rattle.rg_tree.specs.Trees.{Expression, Proposition, number, word, next_word, inverse, binary, shifted, choice, truth, negation, connected, compared}
use Rattle.rg_tree.specs.Meaning.{value_of, holds}
use Rattle.rg_tree.specs.Typing.{HasWidth, IsTyped}
use Rattle.rg_tree.proofs.Steps.{set_values, agree_set, agree_trans}
use Rattle.rg_erase.specs.Erased.{staying, is_erased, flagged, first_of, mentions, speaks_of, kept_of}
use Rattle.rg_erase.specs.Faults.{Defining, defined_by, target_as, target_of, is_in, definition_fault, defined_after, undefined}
use Rattle.rg_erase.proofs.States.{staying_set_erased}
use Rattle.rg_erase.proofs.Mentions.{first_none, second_none, flagged_is, flagged_same, truth_renamed}
use Rattle.rg_erase.proofs.Conjunctions.{Each, HoldsAt, kept_stays, kept_goes}

same_number : (n m : ℕ) → n ≡ m → nat_eq n m ≡ true
same_number n m e = grind (arith, nat_tests)

module _ (d : Defining) where
  -- a side that may be defined is the word, primed or not
  side_flag : (e : Expression) (k : ℕ) → defined_by d e ≡ Some k → get_or d.words k false ≡ true
  side_flag (word j) k h = by_prime d.primed h
    where
      by_prime : (b : Bool) → cond b None (flagged d.words j) ≡ Some k → get_or d.words k false ≡ true
      by_prime true h = cc h
      by_prime false h = subst (λ (n : ℕ). get_or d.words n false ≡ true) (flagged_same d.words j k h) (flagged_is d.words j k h)
  side_flag (next_word j) k h = by_prime d.primed h
    where
      by_prime : (b : Bool) → cond b (flagged d.words j) None ≡ Some k → get_or d.words k false ≡ true
      by_prime false h = cc h
      by_prime true h = subst (λ (n : ℕ). get_or d.words n false ≡ true) (flagged_same d.words j k h) (flagged_is d.words j k h)
  side_flag (number w n) k h = cc h
  side_flag (inverse w a) k h = cc h
  side_flag (binary o w a b) k h = cc h
  side_flag (shifted r w a n) k h = cc h
  side_flag (choice f a b) k h = cc h

  side_value : (e : Expression) (k : ℕ) (s u : List ℕ) → defined_by d e ≡ Some k → (d.primed ≡ false → s ≡ u) → value_of e s u ≡ slice_index u k
  side_value (word j) k s u h same = by_prime d.primed refl h
    where
      by_prime : (b : Bool) → d.primed ≡ b → cond b None (flagged d.words j) ≡ Some k → slice_index s j ≡ slice_index u k
      by_prime true e h = cc h
      by_prime false e h = ap (λ (t : List ℕ). slice_index t j) (same e) ∙ ap (λ n. slice_index u n) (flagged_same d.words j k h)
  side_value (next_word j) k s u h same = by_prime d.primed h
    where
      by_prime : (b : Bool) → cond b (flagged d.words j) None ≡ Some k → slice_index u j ≡ slice_index u k
      by_prime false h = cc h
      by_prime true h = ap (λ n. slice_index u n) (flagged_same d.words j k h)
  side_value (number w n) k s u h same = cc h
  side_value (inverse w a) k s u h same = cc h
  side_value (binary o w a b) k s u h same = cc h
  side_value (shifted r w a n) k s u h same = cc h
  side_value (choice f a b) k s u h same = cc h

  side_width : (e : Expression) (k w : ℕ) (widths : List ℕ) → defined_by d e ≡ Some k → HasWidth widths e w → (k < length widths) × (slice_index widths k ≡ w)
  side_width (word j) k w widths h t = by_prime d.primed h
    where
      by_prime : (b : Bool) → cond b None (flagged d.words j) ≡ Some k → (k < length widths) × (slice_index widths k ≡ w)
      by_prime true h = cc h
      by_prime false h = subst (λ (n : ℕ). (n < length widths) × (slice_index widths n ≡ w)) (flagged_same d.words j k h) t
  side_width (next_word j) k w widths h t = by_prime d.primed h
    where
      by_prime : (b : Bool) → cond b (flagged d.words j) None ≡ Some k → (k < length widths) × (slice_index widths k ≡ w)
      by_prime false h = cc h
      by_prime true h = subst (λ (n : ℕ). (n < length widths) × (slice_index widths n ≡ w)) (flagged_same d.words j k h) t
  side_width (number v n) k w widths h t = cc h
  side_width (inverse v a) k w widths h t = cc h
  side_width (binary o v a b) k w widths h t = cc h
  side_width (shifted r v a n) k w widths h t = cc h
  side_width (choice f a b) k w widths h t = cc h

  -- it mentions the word where that is flagged
  side_mentioned : (flags : List Bool) (e : Expression) (k : ℕ) → defined_by d e ≡ Some k → get_or flags k false ≡ true → mentions flags flags e ≡ None → ⊥
  side_mentioned flags (word j) k h truly nothing = by_prime d.primed h
    where
      by_prime : (b : Bool) → cond b None (flagged d.words j) ≡ Some k → ⊥
      by_prime true h = cc h
      by_prime false h =
          let e : j ≡ k = flagged_same d.words j k h in
          let flag : get_or flags j false ≡ true = ap (λ n. get_or flags n false) e ∙ truly in
          let some : flagged flags j ≡ Some j = ap (λ c. cond c (Some j) None) flag in cc (some, nothing)
  side_mentioned flags (next_word j) k h truly nothing = by_prime d.primed h
    where
      by_prime : (b : Bool) → cond b (flagged d.words j) None ≡ Some k → ⊥
      by_prime false h = cc h
      by_prime true h =
          let e : j ≡ k = flagged_same d.words j k h in
          let flag : get_or flags j false ≡ true = ap (λ n. get_or flags n false) e ∙ truly in
          let some : flagged flags j ≡ Some j = ap (λ c. cond c (Some j) None) flag in cc (some, nothing)
  side_mentioned flags (number w n) k h truly nothing = cc h
  side_mentioned flags (inverse w a) k h truly nothing = cc h
  side_mentioned flags (binary o w a b) k h truly nothing = cc h
  side_mentioned flags (shifted r w a n) k h truly nothing = cc h
  side_mentioned flags (choice f a b) k h truly nothing = cc h

  target_side : (side value : Expression) (k : ℕ) → target_as d side value ≡ Some k → (mentions d.excluded d.excluded_next value ≡ None) × (defined_by d side ≡ Some k)
  target_side side value k h = by_word (mentions d.excluded d.excluded_next value) h
    where
      by_word : (o : Option ℕ) → cond (is_none o) (defined_by d side) None ≡ Some k → (o ≡ None) × (defined_by d side ≡ Some k)
      by_word None h = (refl, h)
      by_word (Some m) h = cc h

  -- the value that an equation gives
  abbrev value_by : Option ℕ → Expression → Expression → Expression
  value_by (Some k) a b = b
  value_by None a b = a

  abbrev pub value_at : Proposition → Expression
  value_at (compared Equal a b) = value_by (target_as d a b) a b
  value_at f = number 0 0

  -- a formula is an equation of a word and a value
  pub record Told (f : Proposition) (k : ℕ) : Type 0 where
    pub side : Expression
    pub by : defined_by d side ≡ Some k
    pub free : mentions d.excluded d.excluded_next (value_at f) ≡ None
    pub true_where : (s u : List ℕ) → value_of side s u ≡ value_of (value_at f) s u → holds f s u ≡ true
    pub width : (widths : List ℕ) → IsTyped widths f → (w : ℕ) × HasWidth widths side w × HasWidth widths (value_at f) w
    pub silent : (flags : List Bool) → speaks_of flags flags f ≡ None → mentions flags flags side ≡ None

  told_by : (a b : Expression) (k : ℕ) (o : Option ℕ) → target_as d a b ≡ o → first_of o (target_as d b a) ≡ Some k → Told (compared Equal a b) k
  told_by a b k (Some j) e h =
      let same : Some j ≡ Some k = h in
      let t = target_side a b k (e ∙ same) in
      let v : b ≡ value_at (compared Equal a b) = ap (λ p. value_by p a b) (sym e) in
      record {
        side = a;
        by = t.1;
        free = subst (λ (x : Expression). mentions d.excluded d.excluded_next x ≡ None) v t.0;
        true_where = λ s u h. same_number _ _ (h ∙ ap (λ (x : Expression). value_of x s u) (sym v));
        width = λ widths t. (t.0, t.1, subst (λ (x : Expression). HasWidth widths x t.0) v t.2);
        silent = λ flags h. first_none _ _ h;
      }
  told_by a b k None e h =
      let t = target_side b a k h in
      let v : a ≡ value_at (compared Equal a b) = ap (λ p. value_by p a b) (sym e) in
      record {
        side = b;
        by = t.1;
        free = subst (λ (x : Expression). mentions d.excluded d.excluded_next x ≡ None) v t.0;
        true_where = λ s u h. same_number _ _ (ap (λ (x : Expression). value_of x s u) v ∙ sym h);
        width = λ widths t. (t.0, t.2, subst (λ (x : Expression). HasWidth widths x t.0) v t.1);
        silent = λ flags h. second_none (mentions flags flags a) _ h;
      }

  pub told : (f : Proposition) (k : ℕ) → target_of d f ≡ Some k → Told f k
  told (compared Equal a b) k h = told_by a b k (target_as d a b) refl h
  told (compared NotEqual a b) k h = cc h
  told (compared Less a b) k h = cc h
  told (compared LessOrEqual a b) k h = cc h
  told (compared Greater a b) k h = cc h
  told (compared GreaterOrEqual a b) k h = cc h
  told (truth b) k h = cc h
  told (negation f) k h = cc h
  told (connected c f g) k h = cc h

  -- a state in which the words of equations have their values, as this function gives them
  abbrev set_told : Option ℕ → ℕ → List ℕ → List ℕ
  set_told None x t = t
  set_told (Some k) x t = slice_set t k x

  abbrev pub lifted : (Expression → ℕ) → List Proposition → List ℕ → List ℕ
  lifted v [] t = t
  lifted v (f ∷ fs) t = set_told (target_of d f) (v (value_at f)) (lifted v fs t)

  pub target_flag : (f : Proposition) (k : ℕ) → target_of d f ≡ Some k → get_or d.words k false ≡ true
  target_flag f k h = let t = told f k h in side_flag t.side k t.by

  module _ (erased : List Bool) (are_erased : (k : ℕ) → get_or d.words k false ≡ true → is_erased erased k ≡ true) where
    pub staying_lifted : (v : Expression → ℕ) (fs : List Proposition) (t : List ℕ) → staying erased (lifted v fs t) ≡ staying erased t
    staying_lifted v [] t = refl
    staying_lifted v (f ∷ fs) t = by_target (target_of d f) refl ∙ staying_lifted v fs t
      where
        by_target : (o : Option ℕ) → target_of d f ≡ o → staying erased (set_told o (v (value_at f)) (lifted v fs t)) ≡ staying erased (lifted v fs t)
        by_target None e = refl
        by_target (Some k) e = staying_set_erased erased (lifted v fs t) k (v (value_at f)) (are_erased k (target_flag f k e))

    -- a formula that defines a word speaks of it
    spoken : (f : Proposition) (k : ℕ) → target_of d f ≡ Some k → speaks_of erased erased f ≡ None → ⊥
    spoken f k h nothing = let t = told f k h in side_mentioned erased t.side k t.by (are_erased k (side_flag t.side k t.by)) (t.silent erased nothing)

    -- the fault of one formula
    abbrev fault_here : List ℕ → Proposition → Option ℕ
    fault_here before f = option_and_then (λ k. definition_fault (target_of d f) before k) (speaks_of erased erased f)

    not_before : (k : ℕ) (before : List ℕ) → cond (is_in k before) (Some k) None ≡ None → is_in k before ≡ false
    not_before k before h = by_test (is_in k before) h
      where
        by_test : (b : Bool) → cond b (Some k) None ≡ None → b ≡ false
        by_test true h = cc h
        by_test false h = refl

    fresh : (before : List ℕ) (f : Proposition) (k : ℕ) → target_of d f ≡ Some k → fault_here before f ≡ None → is_in k before ≡ false
    fresh before f k e h = by_word (speaks_of erased erased f) refl h
      where
        by_word : (o : Option ℕ) → speaks_of erased erased f ≡ o → option_and_then (λ m. definition_fault (target_of d f) before m) o ≡ None → is_in k before ≡ false
        by_word None nothing h = absurd (spoken f k e nothing)
        by_word (Some m) some h = not_before k before (ap (λ (o : Option ℕ). definition_fault o before m) (sym e) ∙ h)

    -- a formula that speaks of an erased word defines one
    defines : (before : List ℕ) (f : Proposition) (m : ℕ) → speaks_of erased erased f ≡ Some m → fault_here before f ≡ None → (k : ℕ) × (target_of d f ≡ Some k)
    defines before f m e h =
        by_target (target_of d f) refl (ap (λ (o : Option ℕ). option_and_then (λ n. definition_fault (target_of d f) before n) o) (sym e) ∙ h)
      where
        by_target : (o : Option ℕ) → target_of d f ≡ o → definition_fault (target_of d f) before m ≡ None → (k : ℕ) × (target_of d f ≡ Some k)
        by_target None e h = let nothing : Some m ≡ None = ap (λ (o : Option ℕ). definition_fault o before m) (sym e) ∙ h in cc nothing
        by_target (Some k) e h = (k, e)

    kept_in : (o : Option ℕ) (k : ℕ) (before : List ℕ) → is_in k before ≡ true → is_in k (defined_after o before) ≡ true
    kept_in None k before h = h
    kept_in (Some j) k before h = by_test (nat_eq k j) h
      where
        by_test : (b : Bool) → is_in k before ≡ true → (b || is_in k before) ≡ true
        by_test true h = refl
        by_test false h = h

    now_in : (o : Option ℕ) (k : ℕ) (before : List ℕ) → o ≡ Some k → is_in k (defined_after o before) ≡ true
    now_in None k before e = cc e
    now_in (Some j) k before e =
        let same : k ≡ j = cc e in ap (λ b. b || is_in k before) (same_number k j same)

    -- no formula defines a word that is defined before
    abbrev Others : ℕ → Proposition → Type 0
    Others k f = (j : ℕ) → target_of d f ≡ Some j → k ≢ j

    untouched : (before : List ℕ) (k : ℕ) (fs : List Proposition) → undefined erased d before fs ≡ None → is_in k before ≡ true → Each (Others k) fs
    untouched before k [] h truly = tt
    untouched before k (f ∷ fs) h truly = (
      λ j e same.
          let nothing = fresh before f j e (first_none _ _ h) in
          let also : is_in j before ≡ true = ap (λ n. is_in n before) (sym same) ∙ truly in cc (nothing, also),
      untouched (defined_after (target_of d f) before) k fs (second_none (fault_here before f) _ h) (kept_in (target_of d f) k before truly),
    )

    -- what equations say of a state
    abbrev pub Given : (Expression → ℕ) → List ℕ → Proposition → Type 0
    Given v u f = (k : ℕ) → target_of d f ≡ Some k → slice_index u k ≡ v (value_at f)

    given_other : (v : Expression → ℕ) (u : List ℕ) (k x : ℕ) (fs : List Proposition) → Each (Others k) fs → Each (Given v u) fs → Each (Given v (slice_set u k x)) fs
    given_other v u k x [] h g = tt
    given_other v u k x (f ∷ fs) h g =
        (λ j e. get_or-set_other u k j x 0 (λ same. h.0 j e (sym same)) ∙ g.0 j e, given_other v u k x fs h.1 g.1)

    module _ (widths : List ℕ) (v : Expression → ℕ) (within : (e : Expression) (w : ℕ) → HasWidth widths e w → v e < 2 ^ w) where
      pub values_lifted : (fs : List Proposition) (t : List ℕ) → Each (IsTyped widths) fs → AreValues widths t → AreValues widths (lifted v fs t)
      values_lifted [] t typed st = st
      values_lifted (f ∷ fs) t typed st = by_target (target_of d f) refl (values_lifted fs t typed.1 st)
        where
          by_target : (o : Option ℕ) → target_of d f ≡ o → AreValues widths (lifted v fs t) → AreValues widths (set_told o (v (value_at f)) (lifted v fs t))
          by_target None e rest = rest
          by_target (Some k) e rest =
              let h = told f k e in
              let ty = h.width widths typed.0 in
              let at = side_width h.side k ty.0 widths h.by ty.1 in
              set_values widths (lifted v fs t) k (v (value_at f)) rest at.0 (subst (λ (w : ℕ). v (value_at f) < 2 ^ w) (sym at.1) (within (value_at f) ty.0 ty.2))

      same_length : (ws s : List ℕ) → AreValues ws s → length s ≡ length ws
      same_length [] [] h = refl
      same_length [] (x ∷ xs) h = absurd h
      same_length (w ∷ ws) [] h = absurd h
      same_length (w ∷ ws) (x ∷ xs) h = ap suc (same_length ws xs h.1)

      pub given_lifted : (before : List ℕ) (fs : List Proposition) (t : List ℕ) → undefined erased d before fs ≡ None → Each (IsTyped widths) fs → AreValues widths t → Each (Given v (lifted v fs t)) fs
      given_lifted before [] t h typed st = tt
      given_lifted before (f ∷ fs) t h typed st =
          by_target (target_of d f) refl (given_lifted (defined_after (target_of d f) before) fs t (second_none (fault_here before f) _ h) typed.1 st)
        where
          by_target : (o : Option ℕ) → target_of d f ≡ o → Each (Given v (lifted v fs t)) fs → Each (Given v (set_told o (v (value_at f)) (lifted v fs t))) (f ∷ fs)
          by_target None e rest = (λ k same. let nothing : None ≡ Some k = sym e ∙ same in cc nothing, rest)
          by_target (Some k) e rest =
              let h' = told f k e in
              let w = h'.width widths typed.0 in
              let at = side_width h'.side k w.0 widths h'.by w.1 in
              let size = same_length widths (lifted v fs t) (values_lifted fs t typed.1 st) in
              let x = v (value_at f) in (
                λ j same.
                    let i : k ≡ j = (let both : Some k ≡ Some j = sym e ∙ same in cc both) in
                    ap (λ n. slice_index (slice_set (lifted v fs t) k x) n) (sym i) ∙ get_or-set_same (lifted v fs t) k x 0 (omega (arith, size, at.0)),
                given_other v (lifted v fs t) k x fs
                    (untouched (defined_after (target_of d f) before) k fs (second_none (fault_here before f) _ h) (now_in (target_of d f) k before e)) rest,
              )

    -- where what is kept of formulas holds, and equations are met, the formulas hold
    pub all_hold : (v : Expression → ℕ) (s u : List ℕ) → (d.primed ≡ false → s ≡ u) → ((e : Expression) → mentions d.excluded d.excluded_next e ≡ None → v e ≡ value_of e s u) → (before : List ℕ) (fs : List Proposition) → undefined erased d before fs ≡ None → Each (Given v u) fs → Each (HoldsAt (staying erased s) (staying erased u)) (kept_of erased fs) → Each (HoldsAt s u) fs
    all_hold v s u same told_as before [] h g k = tt
    all_hold v s u same told_as before (f ∷ fs) h g k =
        by_word (speaks_of erased erased f) refl (λ rest. all_hold v s u same told_as (defined_after (target_of d f) before) fs (second_none (fault_here before f) _ h) g.1 rest)
      where
        by_word : (o : Option ℕ) → speaks_of erased erased f ≡ o → (Each (HoldsAt (staying erased s) (staying erased u)) (kept_of erased fs) → Each (HoldsAt s u) fs) → Each (HoldsAt s u) (f ∷ fs)
        by_word None e rest =
            let both = subst (Each (HoldsAt (staying erased s) (staying erased u))) (kept_stays erased f fs e) k in
            (sym (truth_renamed erased f s u e) ∙ both.0, rest both.1)
        by_word (Some m) e rest =
            let target = defines before f m e (first_none _ _ h) in
            let t = told f target.0 target.1 in (
              t.true_where s u (side_value t.side target.0 s u t.by same ∙ g.0 target.0 target.1 ∙ told_as (value_at f) t.free),
              rest (subst (Each (HoldsAt (staying erased s) (staying erased u))) (kept_goes erased f fs m e) k),
            )

  -- a state that agrees on the fixed words still does, where no word that may be defined is fixed
  module _ (erased : List Bool) (are_erased : (k : ℕ) → get_or d.words k false ≡ true → is_erased erased k ≡ true) (words : List Word) (v : Expression → ℕ) (within : (e : Expression) (w : ℕ) → HasWidth (widths_of words) e w → v e < 2 ^ w) (free : (k : ℕ) → get_or d.words k false ≡ true → get_or (fixed_of words) k false ≡ false) where
    pub fixed_lifted : (fs : List Proposition) (s t : List ℕ) → Each (IsTyped (widths_of words)) fs → IsState words t → AgreeOnFixed words s t → AgreeOnFixed words s (lifted v fs t)
    fixed_lifted [] s t typed st h = h
    fixed_lifted (f ∷ fs) s t typed st h = by_target (target_of d f) refl (fixed_lifted fs s t typed.1 st h)
      where
        by_target : (o : Option ℕ) → target_of d f ≡ o → AgreeOnFixed words s (lifted v fs t) → AgreeOnFixed words s (set_told o (v (value_at f)) (lifted v fs t))
        by_target None e rest = rest
        by_target (Some k) e rest =
            agree_trans words s (lifted v fs t) (slice_set (lifted v fs t) k (v (value_at f))) (values_lifted erased are_erased (widths_of words) v within fs t typed.1 st) rest
            (agree_set words (lifted v fs t) k (v (value_at f)) (free k (target_flag f k e)))
