-- Names in C: different for different names, and not reserved.
use Rattle.std.proofs.Common.{◌≡◌, ℕ, Bool, true, false, ◌||◌, cond, nat_eq, List, ◌∷◌, refl}
use Rattle.std.specs.Prelude.{codes}
use Rattle.std.specs.List.{ends_with}
use Rattle.std.proofs.lemmas.Bool.{or_left, or_right, or_parts}
use Rattle.rg_c_values.specs.CNames.{c_words, c_beginnings, our_beginnings, is_c_word, begins_as_c, begins_as_ours, has_small_letter, is_int_type, is_reserved, is_taken, NamesStayApart, NamesAreFree}

-- what begins with `w_` begins as names do that are ours
ours : (a : List ℕ) → begins_as_ours (119 ∷ 95 ∷ a) ≡ true
unfolding begins_as_ours our_beginnings
ours a = refl

ours_taken : (a : List ℕ) → is_taken (119 ∷ 95 ∷ a) ≡ true
ours_taken a =
    let name = 119 ∷ 95 ∷ a in
    or_left (is_reserved name || begins_as_ours name) (ends_with nat_eq name (codes "_")) (or_right (is_reserved name) (begins_as_ours name) (ours a))

-- and is not reserved
ours_free : (a : List ℕ) → is_reserved (119 ∷ 95 ∷ a) ≡ false
unfolding is_c_word c_words begins_as_c c_beginnings is_int_type has_small_letter
ours_free a = refl

apart : (a b : List ℕ) (s t : Bool) → is_taken a ≡ s → is_taken b ≡ t → cond s (119 ∷ 95 ∷ a) a ≡ cond t (119 ∷ 95 ∷ b) b → a ≡ b
apart a b true true e f h = cc
apart a b false false e f h = h
apart a b true false e f h = let taken = ours_taken a in absurd (cc)
apart a b false true e f h = let taken = ours_taken b in absurd (cc)

pub names_stay_apart : NamesStayApart
names_stay_apart a b h = apart a b (is_taken a) (is_taken b) refl refl h

free : (a : List ℕ) (t : Bool) → is_taken a ≡ t → is_reserved (cond t (119 ∷ 95 ∷ a) a) ≡ false
free a true e = ours_free a
free a false e = (or_parts (is_reserved a) (begins_as_ours a) (or_parts (is_reserved a || begins_as_ours a) (ends_with nat_eq a (codes "_")) e).0).0

pub names_are_free : NamesAreFree
names_are_free a = free a (is_taken a) refl
