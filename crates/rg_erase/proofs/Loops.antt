-- What the loops over words keep.
use Rattle.std.proofs.Common.{◌≡◌, ◌≢◌, ℕ, zero, suc, ◌+◌, ◌≤◌, ◌<◌, Bool, true, false, not, ◌&&◌, List, [], ◌∷◌, ◌++◌, length, cond, get_or, take, drop, None, refl, sym, ap, ◌∙◌, arith}
use Rattle.std.proofs.lemmas.List.{get_or-map, get_or-take, length-take}
use Rattle.rg_words.specs.Layout.{Word, names_of, fixed_of, index_of, IsLayout}
use Rattle.rg_words.specs.declared.limits.TheConstants.{MOST_WORDS}
use Rattle.rg_words.proofs.Words.{absent_from_apart}
use Rattle.rg_erase.specs.Erased.{staying, new_place, first_free}
use Rattle.rg_erase.specs.Faults.{erased_free}

one_more : (k : ℕ) → k + 1 ≡ suc k
one_more k = omega arith

pub place_first : (erased : List Bool) → new_place erased 0 ≡ 0
place_first [] = refl
place_first (e ∷ es) = refl

erased_place : (erased : List Bool) (k : ℕ) → get_or erased k false ≡ true → new_place erased (suc k) ≡ new_place erased k
erased_place [] k h = cc h
erased_place (true ∷ es) zero h = place_first es
erased_place (false ∷ es) zero h = cc h
erased_place (true ∷ es) (suc k) h = erased_place es k h
erased_place (false ∷ es) (suc k) h = ap suc (erased_place es k h)

stays_place : (erased : List Bool) (k : ℕ) → get_or erased k false ≡ false → new_place erased (suc k) ≡ suc (new_place erased k)
stays_place [] k h = refl
stays_place (true ∷ es) zero h = cc h
stays_place (false ∷ es) zero h = ap suc (place_first es)
stays_place (true ∷ es) (suc k) h = stays_place es k h
stays_place (false ∷ es) (suc k) h = ap suc (stays_place es k h)

pub place_erased : (erased : List Bool) (k : ℕ) → get_or erased k false ≡ true → new_place erased (k + 1) ≡ new_place erased k
place_erased erased k h = ap (λ n. new_place erased n) (one_more k) ∙ erased_place erased k h

pub place_stays : (erased : List Bool) (k : ℕ) → get_or erased k false ≡ false → new_place erased (k + 1) ≡ new_place erased k + 1
place_stays erased k h = ap (λ n. new_place erased n) (one_more k) ∙ stays_place erased k h ∙ sym (one_more (new_place erased k))

pub staying_nil : {A : Type 0} (erased : List Bool) → ◌≡◌ {A = List A} (staying erased []) []
staying_nil [] = refl
staying_nil (e ∷ es) = refl

pub staying_shorter : {A : Type 0} (erased : List Bool) (xs : List A) → length (staying erased xs) ≤ length xs
staying_shorter [] xs = omega arith
staying_shorter (e ∷ es) [] = omega arith
staying_shorter (true ∷ es) (x ∷ xs) = let h = staying_shorter es xs in omega (arith, h)
staying_shorter (false ∷ es) (x ∷ xs) = let h = staying_shorter es xs in omega (arith, h)

-- one entry more
more_stays : {A : Type 0} (erased : List Bool) (xs : List A) (k : ℕ) (d : A) → k < length xs → staying erased (take (suc k) xs) ≡ staying erased (take k xs) ++ cond (get_or erased k false) [] (get_or xs k d ∷ [])
more_stays erased [] k d less = absurd (omega arith)
more_stays [] (y ∷ ys) zero d less = refl
more_stays (true ∷ es) (y ∷ ys) zero d less = staying_nil es
more_stays (false ∷ es) (y ∷ ys) zero d less = ap (λ zs. y ∷ zs) (staying_nil es)
more_stays [] (y ∷ ys) (suc k) d less = ap (λ zs. y ∷ zs) (more_stays [] ys k d (omega arith))
more_stays (true ∷ es) (y ∷ ys) (suc k) d less = more_stays es ys k d (omega arith)
more_stays (false ∷ es) (y ∷ ys) (suc k) d less = ap (λ zs. y ∷ zs) (more_stays es ys k d (omega arith))

pub staying_more : {A : Type 0} (erased : List Bool) (xs : List A) (k : ℕ) (d : A) → k < length xs → staying erased (take (k + 1) xs) ≡ staying erased (take k xs) ++ cond (get_or erased k false) [] (get_or xs k d ∷ [])
staying_more erased xs k d less = ap (λ n. staying erased (take n xs)) (one_more k) ∙ more_stays erased xs k d less

-- a name that none of these words has, none of those has that stay
pub stays_apart : (erased : List Bool) (words : List Word) (name : List ℕ) → ((j : ℕ) (d : Word) → j < length words → (get_or words j d).name ≢ name) → (k : ℕ) (d : Word) → k < length (staying erased words) → (get_or (staying erased words) k d).name ≢ name
stays_apart [] words name apart k d less = apart k d less
stays_apart (e ∷ es) [] name apart k d less = absurd (omega arith)
stays_apart (true ∷ es) (w ∷ ws) name apart k d less = stays_apart es ws name (λ j d l. apart (suc j) d (omega (arith, l))) k d less
stays_apart (false ∷ es) (w ∷ ws) name apart zero d less = apart zero d (omega arith)
stays_apart (false ∷ es) (w ∷ ws) name apart (suc k) d less = stays_apart es ws name (λ j d l. apart (suc j) d (omega (arith, l))) k d (omega arith)

-- a word's name is none of the words before it that stay
pub absent_among : (erased : List Bool) (words : List Word) (i : ℕ) → IsLayout words → i < length words → index_of (staying erased (take i words)) (get_or (names_of words) i []) ≡ None
absent_among erased words i layout inside =
    absent_from_apart (staying erased (take i words)) (get_or (names_of words) i []) (stays_apart erased (take i words) (get_or (names_of words) i []) apart)
  where
    apart : (j : ℕ) (d : Word) → j < length (take i words) → (get_or (take i words) j d).name ≢ get_or (names_of words) i []
    apart j d less e =
        let lt : j < i = omega (arith, less, length-take i words) in
        layout.distinct j i d lt inside (ap (λ w. w.name) (sym (get_or-take i words j d lt)) ∙ e ∙ get_or-map (λ w. w.name) words i d [] inside)

-- and there is room for it
pub room_among : (erased : List Bool) (words : List Word) (i : ℕ) → IsLayout words → i < length words → length (staying erased (take i words)) < MOST_WORDS
room_among erased words i layout inside = omega (arith, staying_shorter erased (take i words), length-take i words, layout.count)

-- the flags of the rest
more_free : (erased : List Bool) (words : List Word) (k : ℕ) → k < length words → erased_free (drop k erased) (drop k words) ≡ (get_or erased k false && not (get_or (fixed_of words) k false)) ∷ erased_free (drop (suc k) erased) (drop (suc k) words)
more_free erased [] k less = absurd (omega arith)
more_free [] (w ∷ ws) zero less = refl
more_free (e ∷ es) (w ∷ ws) zero less = refl
more_free [] (w ∷ ws) (suc k) less = free_more_nil ws k (omega arith)
  where
    free_more_nil : (words : List Word) (k : ℕ) → k < length words → erased_free [] (drop k words) ≡ false ∷ erased_free [] (drop (suc k) words)
    free_more_nil [] k less = absurd (omega arith)
    free_more_nil (w ∷ ws) zero less = refl
    free_more_nil (w ∷ ws) (suc k) less = free_more_nil ws k (omega arith)
more_free (e ∷ es) (w ∷ ws) (suc k) less = more_free es ws k (omega arith)

pub free_more : (erased : List Bool) (words : List Word) (k : ℕ) → k < length words → erased_free (drop k erased) (drop k words) ≡ (get_or erased k false && not (get_or (fixed_of words) k false)) ∷ erased_free (drop (k + 1) erased) (drop (k + 1) words)
free_more erased words k less =
    more_free erased words k less
    ∙ ap (λ n. (get_or erased k false && not (get_or (fixed_of words) k false)) ∷ erased_free (drop n erased) (drop n words)) (sym (one_more k))

-- the first word that isn't fixed, from a place on
here_first : (words : List Word) (k : ℕ) (b : Bool) → k < length words → get_or (fixed_of words) k false ≡ b → first_free (drop k words) ≡ cond b (suc (first_free (drop (suc k) words))) 0
here_first [] k b less h = absurd (omega arith)
here_first (w ∷ ws) zero b less h = ap (λ c. cond c (suc (first_free ws)) 0) h
here_first (w ∷ ws) (suc k) b less h = here_first ws k b (omega arith) h

pub first_here : (words : List Word) (k : ℕ) (b : Bool) → k < length words → get_or (fixed_of words) k false ≡ b → first_free (drop k words) ≡ cond b (suc (first_free (drop (k + 1) words))) 0
first_here words k b less h = here_first words k b less h ∙ ap (λ n. cond b (suc (first_free (drop n words))) 0) (sym (one_more k))

flag_at : (ws : List Word) (f b : Bool) (n : ℕ) → f ≡ b → (b ≡ true → get_or (fixed_of ws) n false ≡ false) → get_or (f ∷ fixed_of ws) (cond b (suc n) 0) false ≡ false
flag_at ws f true n e h = h refl
flag_at ws f false n e h = e

less_at : (b : Bool) (n m : ℕ) → b ≡ true → cond b (suc n) 0 < suc m → n < m
less_at true n m e less = omega arith
less_at false n m e less = cc e

pub first_is_free : (words : List Word) → first_free words < length words → get_or (fixed_of words) (first_free words) false ≡ false
first_is_free [] less = absurd (omega arith)
first_is_free (w ∷ ws) less = flag_at ws w.fixed w.fixed (first_free ws) refl (λ e. first_is_free ws (less_at w.fixed (first_free ws) (length ws) e less))
