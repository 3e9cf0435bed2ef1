-- States without the values of erased words.
use Rattle.std.proofs.Common.{◌≡◌, ℕ, zero, suc, ◌<◌, Bool, true, false, List, [], ◌∷◌, length, map, get_or, refl, ap, arith}
use Rattle.std.specs.Prelude.{slice_set}
use Rattle.rg_words.specs.Layout.{Word, widths_of}
use Rattle.rg_words.specs.States.{AreValues, IsState, SameIf, AgreeOnFixed, IsPair}
use Rattle.rg_erase.specs.Erased.{staying, new_place, is_erased}

-- what stays of a list that a function has made
pub staying_map : {A B : Type 0} (f : A → B) (erased : List Bool) (xs : List A) → staying erased (map f xs) ≡ map f (staying erased xs)
staying_map f [] xs = refl
staying_map f (e ∷ es) [] = refl
staying_map f (true ∷ es) (x ∷ xs) = staying_map f es xs
staying_map f (false ∷ es) (x ∷ xs) = ap (λ ys. f x ∷ ys) (staying_map f es xs)

-- a word that stays has its entry at its new place
pub staying_at : {A : Type 0} (erased : List Bool) (xs : List A) (k : ℕ) (d : A) → is_erased erased k ≡ false → get_or (staying erased xs) (new_place erased k) d ≡ get_or xs k d
staying_at [] xs k d h = refl
staying_at (true ∷ es) [] zero d h = refl
staying_at (true ∷ es) [] (suc k) d h = refl
staying_at (false ∷ es) [] zero d h = refl
staying_at (false ∷ es) [] (suc k) d h = refl
staying_at (true ∷ es) (x ∷ xs) zero d h = cc h
staying_at (true ∷ es) (x ∷ xs) (suc k) d h = staying_at es xs k d h
staying_at (false ∷ es) (x ∷ xs) zero d h = refl
staying_at (false ∷ es) (x ∷ xs) (suc k) d h = staying_at es xs k d h

-- and is one of the words that stay
pub place_within : {A : Type 0} (erased : List Bool) (xs : List A) (k : ℕ) → is_erased erased k ≡ false → k < length xs → new_place erased k < length (staying erased xs)
place_within [] xs k h less = less
place_within (e ∷ es) [] k h less = absurd (omega arith)
place_within (true ∷ es) (x ∷ xs) zero h less = cc h
place_within (true ∷ es) (x ∷ xs) (suc k) h less = place_within es xs k h (omega arith)
place_within (false ∷ es) (x ∷ xs) zero h less = omega arith
place_within (false ∷ es) (x ∷ xs) (suc k) h less = let r = place_within es xs k h (omega arith) in omega (arith, r)

-- a new value of a word that stays
pub staying_set : (erased : List Bool) (s : List ℕ) (k x : ℕ) → is_erased erased k ≡ false → staying erased (slice_set s k x) ≡ slice_set (staying erased s) (new_place erased k) x
staying_set [] s k x h = refl
staying_set (true ∷ es) [] zero x h = refl
staying_set (true ∷ es) [] (suc k) x h = refl
staying_set (false ∷ es) [] zero x h = refl
staying_set (false ∷ es) [] (suc k) x h = refl
staying_set (true ∷ es) (y ∷ ys) zero x h = cc h
staying_set (true ∷ es) (y ∷ ys) (suc k) x h = staying_set es ys k x h
staying_set (false ∷ es) (y ∷ ys) zero x h = refl
staying_set (false ∷ es) (y ∷ ys) (suc k) x h = ap (λ zs. y ∷ zs) (staying_set es ys k x h)

-- a new value of an erased word
pub staying_set_erased : (erased : List Bool) (s : List ℕ) (k x : ℕ) → is_erased erased k ≡ true → staying erased (slice_set s k x) ≡ staying erased s
staying_set_erased [] s k x h = cc h
staying_set_erased (e ∷ es) [] zero x h = refl
staying_set_erased (e ∷ es) [] (suc k) x h = refl
staying_set_erased (true ∷ es) (y ∷ ys) zero x h = refl
staying_set_erased (false ∷ es) (y ∷ ys) zero x h = cc h
staying_set_erased (true ∷ es) (y ∷ ys) (suc k) x h = staying_set_erased es ys k x h
staying_set_erased (false ∷ es) (y ∷ ys) (suc k) x h = ap (λ zs. y ∷ zs) (staying_set_erased es ys k x h)

-- a state without the values of erased words
pub staying_values : (erased : List Bool) (ws s : List ℕ) → AreValues ws s → AreValues (staying erased ws) (staying erased s)
staying_values [] ws s h = h
staying_values (e ∷ es) [] [] h = tt
staying_values (e ∷ es) [] (x ∷ xs) h = absurd h
staying_values (e ∷ es) (w ∷ ws) [] h = absurd h
staying_values (true ∷ es) (w ∷ ws) (x ∷ xs) h = staying_values es ws xs h.1
staying_values (false ∷ es) (w ∷ ws) (x ∷ xs) h = (h.0, staying_values es ws xs h.1)

pub staying_state : (erased : List Bool) (words : List Word) (s : List ℕ) → IsState words s → IsState (staying erased words) (staying erased s)
staying_state erased words s h =
    let values = staying_values erased (widths_of words) s h in rw (staying_map (λ w. w.width) erased words) at values

pub staying_fixed : (erased : List Bool) (words : List Word) (s t : List ℕ) → AgreeOnFixed words s t → AgreeOnFixed (staying erased words) (staying erased s) (staying erased t)
unfolding AgreeOnFixed
staying_fixed [] words s t h = h
staying_fixed (e ∷ es) [] s t h = tt
staying_fixed (true ∷ es) (w ∷ ws) (x ∷ xs) (y ∷ ys) h = staying_fixed es ws xs ys h.1
staying_fixed (false ∷ es) (w ∷ ws) (x ∷ xs) (y ∷ ys) h = (h.0, staying_fixed es ws xs ys h.1)
staying_fixed (true ∷ es) (w ∷ ws) [] ys h = nothing_before (staying es ws) (staying (true ∷ es) ys)
  where
    nothing_before : (ws : List Word) (ys : List ℕ) → AgreeOnFixed ws [] ys
    nothing_before [] ys = tt
    nothing_before (w ∷ ws) ys = tt
staying_fixed (false ∷ es) (w ∷ ws) [] ys h = tt
staying_fixed (true ∷ es) (w ∷ ws) (x ∷ xs) [] h = nothing_after (staying es ws) (staying es xs)
  where
    nothing_after : (ws : List Word) (xs : List ℕ) → AgreeOnFixed ws xs []
    nothing_after [] xs = tt
    nothing_after (w ∷ ws) [] = tt
    nothing_after (w ∷ ws) (x ∷ xs) = tt
staying_fixed (false ∷ es) (w ∷ ws) (x ∷ xs) [] h = tt

pub staying_pair : (erased : List Bool) (words : List Word) (s t : List ℕ) → IsPair words s t → IsPair (staying erased words) (staying erased s) (staying erased t)
staying_pair erased words s t h = record {
  first = staying_state erased words s h.first;
  second = staying_state erased words t h.second;
  fixed = staying_fixed erased words s t h.fixed;
}

-- a state of the words that stay, with the values of erased words as they were
abbrev pub put_back : List Bool → List ℕ → List ℕ → List ℕ
put_back [] s t = t
put_back (e ∷ es) [] t = []
put_back (true ∷ es) (x ∷ s) t = x ∷ put_back es s t
put_back (false ∷ es) (x ∷ s) [] = []
put_back (false ∷ es) (x ∷ s) (y ∷ t) = y ∷ put_back es s t

pub put_back_values : (erased : List Bool) (ws s t : List ℕ) → AreValues ws s → AreValues (staying erased ws) t → AreValues ws (put_back erased s t)
put_back_values [] ws s t h k = k
put_back_values (e ∷ es) [] [] t h k = tt
put_back_values (e ∷ es) [] (x ∷ xs) t h k = absurd h
put_back_values (e ∷ es) (w ∷ ws) [] t h k = absurd h
put_back_values (true ∷ es) (w ∷ ws) (x ∷ xs) t h k = (h.0, put_back_values es ws xs t h.1 k)
put_back_values (false ∷ es) (w ∷ ws) (x ∷ xs) [] h k = absurd k
put_back_values (false ∷ es) (w ∷ ws) (x ∷ xs) (y ∷ ys) h k = (k.0, put_back_values es ws xs ys h.1 k.1)

-- what stays of it is that state
pub put_back_stays : (erased : List Bool) (ws s t : List ℕ) → AreValues ws s → AreValues (staying erased ws) t → staying erased (put_back erased s t) ≡ t
put_back_stays [] ws s t h k = refl
put_back_stays (e ∷ es) [] [] [] h k = refl
put_back_stays (e ∷ es) [] [] (y ∷ ys) h k = absurd k
put_back_stays (e ∷ es) [] (x ∷ xs) t h k = absurd h
put_back_stays (e ∷ es) (w ∷ ws) [] t h k = absurd h
put_back_stays (true ∷ es) (w ∷ ws) (x ∷ xs) t h k = put_back_stays es ws xs t h.1 k
put_back_stays (false ∷ es) (w ∷ ws) (x ∷ xs) [] h k = absurd k
put_back_stays (false ∷ es) (w ∷ ws) (x ∷ xs) (y ∷ ys) h k = ap (λ zs. y ∷ zs) (put_back_stays es ws xs ys h.1 k.1)

-- what stays of a state, put back into it, is the state
pub put_back_same : (erased : List Bool) (s : List ℕ) → put_back erased s (staying erased s) ≡ s
put_back_same [] s = refl
put_back_same (e ∷ es) [] = refl
put_back_same (true ∷ es) (x ∷ s) = ap (λ zs. x ∷ zs) (put_back_same es s)
put_back_same (false ∷ es) (x ∷ s) = ap (λ zs. x ∷ zs) (put_back_same es s)

same_self : (f : Bool) (x : ℕ) → SameIf f x x
same_self true x = refl
same_self false x = tt

-- it agrees with the state on the fixed words, where that state does with what stays of it
pub put_back_fixed : (erased : List Bool) (words : List Word) (s t : List ℕ) → IsState words s → IsState (staying erased words) t → AgreeOnFixed (staying erased words) (staying erased s) t → AgreeOnFixed words s (put_back erased s t)
unfolding AgreeOnFixed
put_back_fixed [] words s t st tt' h = h
put_back_fixed (e ∷ es) [] s t st tt' h = tt
put_back_fixed (e ∷ es) (w ∷ ws) [] t st tt' h = tt
put_back_fixed (true ∷ es) (w ∷ ws) (x ∷ xs) t st tt' h = (same_self w.fixed x, put_back_fixed es ws xs t st.1 tt' h)
put_back_fixed (false ∷ es) (w ∷ ws) (x ∷ xs) [] st tt' h = absurd tt'
put_back_fixed (false ∷ es) (w ∷ ws) (x ∷ xs) (y ∷ ys) st tt' h = (h.0, put_back_fixed es ws xs ys st.1 tt'.1 h.1)

pub put_back_pair : (erased : List Bool) (words : List Word) (s t : List ℕ) → IsState words s → IsPair (staying erased words) (staying erased s) t → IsPair words s (put_back erased s t)
put_back_pair erased words s t st h =
    let second : AreValues (map (λ w. w.width) (staying erased words)) t = h.second in
    record {
      first = st;
      second = put_back_values erased (widths_of words) s t st (rw (staying_map (λ w. w.width) erased words) second);
      fixed = put_back_fixed erased words s t st h.second h.fixed;
    }
