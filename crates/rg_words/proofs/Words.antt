-- The words of a layout: where a name is, and one word more.
use Rattle.std.proofs.Common.{◌≡◌, ◌≢◌, ℕ, ◌<◌, ◌≤◌, ◌+◌, Bool, true, false, List, [], ◌∷◌, ◌++◌, length, Option, Some, None, refl, sym, ap, ◌∙◌, arith, length-append, get_or, cond, take, length-take}
use Rattle.std.specs.Prelude.{IfSome, slice_index_or, slice_get, nat_lt}
use Rattle.std.specs.List.{position_or_len}
use Rattle.std.specs.Str.{bytes_eq}
use Rattle.std.proofs.lemmas.Bool.Decides.{nat_tests}
use Rattle.std.proofs.lemmas.List.{get_or-map, take_more, get_or-take}
use Rattle.std.proofs.lemmas.Option.{slice_get_within, get_or_from_slice_get}
use Rattle.std.proofs.lemmas.List.Elements.{All-push, All-get_or}
use Rattle.std.proofs.lemmas.List.Quantifiers.{all_pairs_push, position-Some}
use Rattle.std.proofs.lemmas.List.Sums.{position_or_len_is, fails_before_first}
use Rattle.std.proofs.lemmas.Slice.Eq.{bytes_eq-Decides}
use Rattle.rg_words.specs.declared.limits.TheConstants.{MOST_WORDS}
use Rattle.rg_words.specs.Names.{IsName}
use Rattle.rg_words.specs.Layout.{Word, index_of, names_of, IsWidth, IsLayout}

none_not_within : (b : Bool) (n : ℕ) → cond b (Some n) None ≡ None → b ≡ false
none_not_within true n h = cc
none_not_within false n h = refl

is_false : (b : Bool) → (b ≡ true → ⊥) → b ≡ false
is_false true h = absurd (h refl)
is_false false h = refl

-- where nothing passes, there is no place
none_passes : (n m : ℕ) → n ≡ m → cond (nat_lt n m) (Some n) None ≡ None
none_passes n m e = grind (arith, nat_tests)

-- where something passes, its place is within
one_passes : (n m i : ℕ) → n ≡ i → i < m → cond (nat_lt n m) (Some n) None ≡ Some i
one_passes n m i e h = grind (arith, nat_tests)

not_below : (n m : ℕ) → nat_lt n m ≡ false → m ≤ n
not_below n m h = grind (arith, nat_tests)

differ : (a b : List ℕ) → (a ≡ b → ⊥) → bytes_eq a b ≡ false
differ a b apart = is_false (bytes_eq a b) (λ (h : bytes_eq a b ≡ true). apart ((bytes_eq-Decides a b).0 h))

-- a name that isn't there is no word's name
pub absent_apart : (words : List Word) (name : List ℕ) → index_of words name ≡ None → (k : ℕ) (d : Word) → k < length words → bytes_eq name (get_or words k d).name ≡ false
absent_apart words name none k d h =
    let p : Word → Bool = λ w. bytes_eq name w.name in
    let past : length words ≤ position_or_len p words = not_below _ _ (none_not_within _ (position_or_len p words) none) in
    fails_before_first p words k d (omega arith)

-- a name that no word has isn't there
pub absent_from_apart : (words : List Word) (name : List ℕ) → ((k : ℕ) (d : Word) → k < length words → (get_or words k d).name ≢ name) → index_of words name ≡ None
absent_from_apart words name apart =
    let p : Word → Bool = λ w. bytes_eq name w.name in
    let d : Word = record { name = []; width = 0; fixed = false } in
    none_passes (position_or_len p words) (length words)
    (position_or_len_is p words (length words) d (omega arith) (λ k h. differ name (get_or words k d).name (λ e. apart k d h (sym e))) (λ h. absurd (omega arith)))

-- a word is found by its name
pub found_by_name : (words : List Word) (i : ℕ) (d : Word) → IsLayout words → i < length words → index_of words (get_or words i d).name ≡ Some i
found_by_name words i d layout h =
    let name : List ℕ = (get_or words i d).name in
    let p : Word → Bool = λ w. bytes_eq name w.name in
    one_passes (position_or_len p words) (length words) i
    (position_or_len_is p words i d (omega arith) (λ k lt. differ name (get_or words k d).name (λ e. layout.distinct k i d lt h (sym e))) (λ lt. (bytes_eq-Decides name name).1 refl))
    h

-- the word that is found has the name
pub found_has_name : (words : List Word) (name : List ℕ) (found : Option ℕ) → found ≡ index_of words name → IfSome found (λ i. slice_index_or (names_of words) i [] ≡ name)
found_has_name words name None e = tt
found_has_name words name (Some i) e =
    let d : Word = record { name = []; width = 0; fixed = false } in
    let at = position-Some (λ w. bytes_eq name w.name) words i d (sym e) in
    get_or-map (λ w. w.name) words i d [] at.0 ∙ sym ((bytes_eq-Decides name (get_or words i d).name).0 at.1)

-- one word more is a layout
pub layout_more : (words : List Word) (w : Word) → IsLayout words → index_of words w.name ≡ None → length words < MOST_WORDS → IsWidth w.width → IsName w.name → IsLayout (words ++ w ∷ [])
layout_more words w layout absent room width name = record {
  count = omega (arith, length-append words (w ∷ []));
  widths = All-push (λ x. IsWidth x.width) words w layout.widths width;
  names = All-push (λ x. IsName x.name) words w layout.names name;
  distinct = all_pairs_push (λ x y. x.name ≢ y.name) words w layout.distinct (λ k d h e. apart k d h (sym e));
}
  where
    apart : (k : ℕ) (d : Word) → k < length words → w.name ≡ (get_or words k d).name → ⊥
    apart k d h e =
        let no : bytes_eq w.name (get_or words k d).name ≡ false = absent_apart words w.name absent k d h in
        let yes : bytes_eq w.name (get_or words k d).name ≡ true = (bytes_eq-Decides w.name (get_or words k d).name).1 e in
        cc

-- a word at a place is of the layout, and no word before it has its name
pub record StandsAt (words : List Word) (i : ℕ) (w : Word) : Type 0 where
  pub absent : index_of (take i words) w.name ≡ None
  pub width : IsWidth w.width
  pub name : IsName w.name
  pub room : length (take i words) < MOST_WORDS
  pub more : take (i + 1) words ≡ take i words ++ w ∷ []

pub stands_at : (words : List Word) (i : ℕ) (w : Word) → IsLayout words → slice_get words i ≡ Some w → StandsAt words i w
stands_at words i w layout there = record {
  absent = absent_from_apart (take i words) w.name apart;
  width = rw at_place at (All-get_or (λ x. IsWidth x.width) words i w inside layout.widths);
  name = rw at_place at (All-get_or (λ x. IsName x.name) words i w inside layout.names);
  room = omega (arith, length-take i words, inside, layout.count);
  more = take_more words i w inside ∙ ap (λ x. take i words ++ x ∷ []) at_place;
}
  where
    inside : i < length words
    inside = slice_get_within words i w there

    at_place : get_or words i w ≡ w
    at_place = get_or_from_slice_get words i w w there

    apart : (k : ℕ) (d : Word) → k < length (take i words) → (get_or (take i words) k d).name ≢ w.name
    apart k d h e =
        let lt : k < i = omega (arith, h, length-take i words) in
        layout.distinct k i d lt inside (ap (λ x. x.name) (sym (get_or-take i words k d lt)) ∙ e ∙ ap (λ x. x.name) (sym (get_or_from_slice_get words i w d there)))
