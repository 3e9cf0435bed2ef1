-- Rows of indices, of members and of choices, one by one.
use Rattle.std.proofs.Common.{◌≡◌, ◌≢◌, ℕ, suc, ◌+◌, ◌<◌, ◌≤◌, ℤ, pos, ◌+ℤ◌, Bool, true, false, refl, sym, ◌∙◌, ap, subst, List, [], ◌∷◌, ◌++◌, map, take, drop, cond, slice_set, slice_index_or, length, All, Contains, add-one}
use Rattle.std.specs.List.{filter}
use Rattle.std.proofs.lemmas.List.{map-append, append_assoc, append-nil, drop_more, take_more, at_drop_all}
use Rattle.std.proofs.lemmas.List.Elements.{filter-append, Contains-get_or}
use Rattle.rg_words.specs.Layout.{Word}
use Rattle.rg_outline_meaning.specs.Members.{numbers, numbers_from, longer, IsMember, AreMembers, fits, Candidate}
use Rattle.rg_outline_meaning.specs.Inner.{AreCandidatesAt}
use Rattle.rg_outline_meaning.specs.Expressions as rule
use Rattle.rg_outline_meaning.specs.Expressions.{AreOthers}
use Rattle.rg_outline_meaning.proofs.Placed.{take_next}

-- one more of the numbers from one on
pub numbers_first : (old : List ℤ) (z : ℤ) (n : ℕ) → (old ++ z ∷ []) ++ numbers_from (z +ℤ pos 1) n ≡ old ++ numbers_from z (suc n)
numbers_first old z n = append_assoc old (z ∷ []) (numbers_from (z +ℤ pos 1) n)

-- so many numbers after others, of which the first is pushed
pub numbers_more : (old pushed all : List ℤ) (first next : ℤ) (less count : ℕ) → pushed ≡ old ++ first ∷ [] → next ≡ first +ℤ pos 1 → suc less ≡ count → all ≡ pushed ++ numbers_from next less → all ≡ old ++ numbers_from first count
numbers_more old pushed all first next less count one by_one fewer is =
    is ∙ ap (λ front. front ++ numbers_from next less) one ∙ ap (λ z. (old ++ first ∷ []) ++ numbers_from z less) by_one ∙ numbers_first old first less ∙ ap (λ n. old ++ numbers_from first n) fewer

-- the longer ones of rows, and those of one more row
pub longer_and_one : (r : ℤ × ℤ) (xs : List (List ℤ)) (x : List ℤ) → longer r (xs ++ x ∷ []) ≡ longer r xs ++ map (λ z. x ++ z ∷ []) (numbers r.0 r.1)
longer_and_one r [] x = append-nil (map (λ z. x ++ z ∷ []) (numbers r.0 r.1))
longer_and_one r (y ∷ xs) x = ap (λ rest. map (λ z. y ++ z ∷ []) (numbers r.0 r.1) ++ rest) (longer_and_one r xs x) ∙ sym (append_assoc (map (λ z. y ++ z ∷ []) (numbers r.0 r.1)) (longer r xs) (map (λ z. x ++ z ∷ []) (numbers r.0 r.1)))

-- members, and one more
pub members_and_one : (words : List Word) (name : List ℕ) (xs : List (List ℤ)) (ks : List ℕ) (x : List ℤ) (k : ℕ) → AreMembers words name xs ks → IsMember words name x k → AreMembers words name (xs ++ x ∷ []) (ks ++ k ∷ [])
members_and_one words name [] [] x k all one = (one, tt)
members_and_one words name (y ∷ xs) (l ∷ ks) x k all one = (all.0, members_and_one words name xs ks x k all.1 one)
members_and_one words name [] (l ∷ ks) x k all one = absurd all
members_and_one words name (y ∷ xs) [] x k all one = absurd all

-- choices, and one more
pub choices_and_one : (words : List Word) (name : List ℕ) (is : List ℤ) (place : ℕ) (zs : List ℤ) (cs : List Candidate) (z : ℤ) (c : Candidate) → AreCandidatesAt words name is place zs cs → z ≡ pos c.number → IsMember words name (slice_set is place z) c.word → AreCandidatesAt words name is place (zs ++ z ∷ []) (cs ++ c ∷ [])
choices_and_one words name is place [] [] z c all number one = (number, one, tt)
choices_and_one words name is place (y ∷ zs) (d ∷ cs) z c all number one = (all.0, all.1, choices_and_one words name is place zs cs z c all.2 number one)
choices_and_one words name is place [] (d ∷ cs) z c all number one = absurd all
choices_and_one words name is place (y ∷ zs) [] z c all number one = absurd all

-- the longer ones of rows up to one, and of that one
pub longer_next : {X : Type 0} (f : X → List ℤ) (r : ℤ × ℤ) (xs : List X) (k : ℕ) (x : X) (old own new : List X) → x ≡ slice_index_or xs k x → k < length xs → map f old ≡ longer r (map f (take k xs)) → map f own ≡ map (λ z. f x ++ z ∷ []) (numbers r.0 r.1) → new ≡ old ++ own → map f new ≡ longer r (map f (take (k + 1) xs))
longer_next f r xs k x old own new at low before one is =
    ap (λ ys. map f ys) is ∙ map-append f old own ∙ ap (λ ys. ys ++ map f own) before ∙ ap (λ ys. longer r (map f (take k xs)) ++ ys) one
    ∙ sym (longer_and_one r (map f (take k xs)) (f x)) ∙ ap (λ ys. longer r ys) (sym (ap (λ ys. map f ys) (take_next xs k x at low) ∙ map-append f (take k xs) (x ∷ [])))

-- members up to one, and that one
pub members_next : {X : Type 0} (f : X → List ℤ) (words : List Word) (name : List ℕ) (xs : List X) (k : ℕ) (x : X) (old new : List ℕ) (one : ℕ) → x ≡ slice_index_or xs k x → k < length xs → AreMembers words name (map f (take k xs)) old → IsMember words name (f x) one → new ≡ old ++ one ∷ [] → AreMembers words name (map f (take (k + 1) xs)) new
members_next f words name xs k x old new one at low before own is =
    rw (take_next xs k x at low, map-append f (take k xs) (x ∷ []), is) (members_and_one words name (map f (take k xs)) old (f x) one before own)

-- choices of the numbers up to one, and that one
pub choices_next : (words : List Word) (name : List ℕ) (is : List ℤ) (place width : ℕ) (zs : List ℤ) (k : ℕ) (d z : ℤ) (old new : List Candidate) (c : Candidate) → z ≡ slice_index_or zs k d → k < length zs → fits width z ≡ true → AreCandidatesAt words name is place (filter (fits width) (take k zs)) old → z ≡ pos c.number → IsMember words name (slice_set is place z) c.word → new ≡ old ++ c ∷ [] → AreCandidatesAt words name is place (filter (fits width) (take (k + 1) zs)) new
choices_next words name is place width zs k d z old new c at low fit before number own same =
    let kept : filter (fits width) (z ∷ []) ≡ z ∷ [] = ap (λ b. cond b (z ∷ []) []) fit in
    rw (take_more zs k d low, ← at, filter-append (fits width) (take k zs) (z ∷ []), kept, same) (choices_and_one words name is place (filter (fits width) (take k zs)) old z c before number own)

-- the next number may not fit
pub choices_passed : (words : List Word) (name : List ℕ) (is : List ℤ) (place width : ℕ) (zs : List ℤ) (k : ℕ) (d z : ℤ) (cs : List Candidate) → z ≡ slice_index_or zs k d → k < length zs → fits width z ≡ false → AreCandidatesAt words name is place (filter (fits width) (take k zs)) cs → AreCandidatesAt words name is place (filter (fits width) (take (k + 1) zs)) cs
choices_passed words name is place width zs k d z cs at low fit before =
    let passed : filter (fits width) (z ∷ []) ≡ [] = ap (λ b. cond b (z ∷ []) []) fit in
    rw (take_more zs k d low, ← at, filter-append (fits width) (take k zs) (z ∷ []), passed, append-nil (filter (fits width) (take k zs))) before

-- ---- the words that `unchanged all but` speaks of

pub not_among : (xs : List ℕ) (x : ℕ) → (Contains xs x → ⊥) → All (λ j. j ≢ x) xs
not_among xs x never = λ k d low same. never (subst (λ j. Contains xs j) same (Contains-get_or xs k d low))

module _ (but : List ℕ) (fixed : List Bool) (k : ℕ) (low : k < length fixed) (ks : List ℕ) where
  -- the next word is fixed
  pub passed_fixed : slice_index_or fixed k false ≡ true → AreOthers but (k + 1) (drop (k + 1) fixed) ks → AreOthers but k (drop k fixed) ks
  passed_fixed is rest = rw (drop_more fixed k false low, is) (rule.fixed k (drop (k + 1) fixed) ks (subst (λ n. AreOthers but n (drop (k + 1) fixed) ks) (add-one k) rest))

  -- it is one of those that are left out
  pub passed_named : Contains but k → AreOthers but (k + 1) (drop (k + 1) fixed) ks → AreOthers but k (drop k fixed) ks
  passed_named is rest = rw (drop_more fixed k false low) (rule.named k (slice_index_or fixed k false) (drop (k + 1) fixed) ks is (subst (λ n. AreOthers but n (drop (k + 1) fixed) ks) (add-one k) rest))

  -- it is another
  pub next_other : slice_index_or fixed k false ≡ false → All (λ j. j ≢ k) but → AreOthers but (k + 1) (drop (k + 1) fixed) ks → AreOthers but k (drop k fixed) (k ∷ ks)
  next_other is others rest = rw (drop_more fixed k false low, is) (rule.other k (drop (k + 1) fixed) ks others (subst (λ n. AreOthers but n (drop (k + 1) fixed) ks) (add-one k) rest))

-- at the end they are all
pub others_all : (but : List ℕ) (fixed : List Bool) (k : ℕ) (ks : List ℕ) → length fixed ≤ k → ((rest : List ℕ) → AreOthers but k (drop k fixed) rest → AreOthers but 0 fixed (ks ++ rest)) → AreOthers but 0 fixed ks
others_all but fixed k ks far all = subst (λ ls. AreOthers but 0 fixed ls) (append-nil ks) (all [] (rw (at_drop_all (λ fs. fs) fixed k far) (rule.at_end k)))
