-- Words of one name in the struct are the same word, or are in the same array.
use Rattle.std.proofs.Common.{◌≡◌, ℕ, zero, suc, ◌+◌, ◌<◌, ◌≤◌, Bool, true, false, not, ◌&&◌, cond, nat_eq, get_or, List, [], ◌∷◌, ◌++◌, length, take, drop, Option, Some, None, refl, sym, ap, ◌∙◌, arith}
use Rattle.std.specs.Prelude.{codes, nat_lt, nat_le, is_some, slice_index, if◌then◌else◌, ◌-◌}
use Rattle.std.specs.Fmt.{decimal}
use Rattle.std.specs.List.{find, range_with_len, starts_with}
use Rattle.std.specs.Option.{option_map_or}
use Rattle.std.specs.Str.{bytes_eq}
use Rattle.std.proofs.lemmas.Bool.{and_parts}
use Rattle.std.proofs.lemmas.Bool.Decides.{nat_tests}
use Rattle.std.proofs.lemmas.Slice.Eq.{bytes_eq-Decides}
use Rattle.std.proofs.lemmas.List.{take-append-drop}
use Rattle.rg_words.specs.Layout.{Word, widths_of, index_of, IsLayout}
use Rattle.rg_words.proofs.Words.{found_by_name, found_has_name}
use Rattle.rg_c_values.specs.CNames.{c_name}
use Rattle.rg_c_values.specs.Arrays.{name_at, base_of, is_numbered, is_item, items_at, array_length, array_of, array_name, name_in_struct, MembersStayApart}
use Rattle.rg_c_values.proofs.NamesApart.{names_stay_apart}

lt_from : (a b : ℕ) → nat_lt a b ≡ true → a < b
lt_from a b h = grind (arith, nat_tests)

le_from : (a b : ℕ) → nat_le a b ≡ true → a ≤ b
le_from a b h = grind (arith, nat_tests)

-- what is found passes, and is among those that were looked at
found_at : (p : ℕ → Bool) (a n j : ℕ) → find p (range_with_len a n) ≡ Some j → (p j ≡ true) × (j < a + n)
found_at p a zero j h = cc h
found_at p a (suc n) j h = by (p a) refl (found_at p (a + 1) n j) h
  where
    by : (b : Bool) → p a ≡ b → (find p (range_with_len (a + 1) n) ≡ Some j → (p j ≡ true) × (j < (a + 1) + n)) → (if b then Some a else find p (range_with_len (a + 1) n)) ≡ Some j →
        (p j ≡ true) × (j < a + suc n)
    by true e rest f =
        let same : a ≡ j = ap (λ o. option_map_or (λ i. i) o 0) f in
        (ap p (sym same) ∙ e, omega (arith, same))
    by false e rest f = ((rest f).0, omega (arith, (rest f).1))

-- a word's name finds it
found : (words : List Word) (k : ℕ) → IsLayout words → k < length words → index_of words (name_at words k) ≡ Some k
found words k layout h =
    let d : Word = record { name = []; width = 0; fixed = false } in
    let at = found_by_name words k d layout h in
    let same : name_at words k ≡ (get_or words k d).name = found_has_name words (get_or words k d).name (Some k) (sym at) in
    ap (index_of words) same ∙ at

same_word : (words : List Word) (j k : ℕ) → IsLayout words → j < length words → k < length words → name_at words j ≡ name_at words k → j ≡ k
same_word words j k layout h g e =
    let both : Some j ≡ Some k = sym (found words j layout h) ∙ ap (index_of words) e ∙ found words k layout g in
    ap (λ o. option_map_or (λ i. i) o 0) both

numbered_is : (base name : List ℕ) (i : ℕ) → is_numbered base i name ≡ true → name ≡ base ++ (codes "_" ++ decimal i)
numbered_is base name i h =
    let parts = and_parts (starts_with nat_eq name base) (bytes_eq (drop (length base) name) (codes "_" ++ decimal i)) h in
    let first : base ≡ take (length base) name = (bytes_eq-Decides base (take (length base) name)).0 parts.0 in
    let rest : drop (length base) name ≡ codes "_" ++ decimal i = (bytes_eq-Decides (drop (length base) name) (codes "_" ++ decimal i)).0 parts.1 in
    sym (take-append-drop (length base) name) ∙ ap (λ t. t ++ drop (length base) name) (sym first) ∙ ap (λ t. base ++ t) rest

-- the first word of what has items is one
first_is_item : (words : List Word) (j n : ℕ) → length words ≡ n → 1 < items_at words j → is_item words j 0 ≡ true
first_is_item words j zero size more = absurd (omega (arith, more, none))
  where
    none : items_at words j ≡ 0
    none = ap (λ n. option_map_or (λ i. i) (find (λ i. not (is_item words j i)) (range_with_len 0 n)) n) size
first_is_item words j (suc n) size more = by (is_item words j 0) refl
  where
    rest : Option ℕ
    rest = find (λ i. not (is_item words j i)) (range_with_len 1 n)

    none : is_item words j 0 ≡ false → items_at words j ≡ 0
    none e =
        ap (λ m. option_map_or (λ i. i) (find (λ i. not (is_item words j i)) (range_with_len 0 m)) m) size
        ∙ ap (λ b. option_map_or (λ i. i) (if not b then Some 0 else rest) (suc n)) e

    by : (b : Bool) → is_item words j 0 ≡ b → is_item words j 0 ≡ true
    by true e = e
    by false e = absurd (omega (arith, more, none e))

none_of : (o : Option ℕ) → not (is_some o) ≡ true → o ≡ None
none_of None h = refl
none_of (Some n) h = cc h

-- an array has items, and no word has its name
array_parts : (words : List Word) (j m : ℕ) → m < array_length words j → (1 < items_at words j) × (index_of words (base_of (name_at words j)) ≡ None)
array_parts words j m h = by (nat_lt 1 (items_at words j) && not (is_some (index_of words (base_of (name_at words j))))) refl h
  where
    by : (b : Bool) → (nat_lt 1 (items_at words j) && not (is_some (index_of words (base_of (name_at words j))))) ≡ b → m < (if b then items_at words j else 0) →
        (1 < items_at words j) × (index_of words (base_of (name_at words j)) ≡ None)
    by true e less =
        let parts = and_parts (nat_lt 1 (items_at words j)) (not (is_some (index_of words (base_of (name_at words j))))) e in
        (lt_from 1 (items_at words j) parts.0, none_of (index_of words (base_of (name_at words j))) parts.1)
    by false e less = absurd (omega (arith, less))

-- what begins an array has the array's name with `_0`
array_begins : (words : List Word) (j m : ℕ) → m < array_length words j → name_at words j ≡ base_of (name_at words j) ++ (codes "_" ++ decimal 0)
array_begins words j m h =
    let base : List ℕ = base_of (name_at words j) in
    let here : j + 0 ≡ j = omega arith in
    let same_width = nat_eq (slice_index (widths_of words) (j + 0)) (slice_index (widths_of words) j) in
    let item = first_is_item words j (length words) refl (array_parts words j m h).0 in
    let parts = and_parts (nat_lt (j + 0) (length words)) (is_numbered base 0 (name_at words (j + 0)) && same_width) item in
    ap (name_at words) (sym here) ∙ numbered_is base (name_at words (j + 0)) 0 (and_parts (is_numbered base 0 (name_at words (j + 0))) same_width parts.1).0

-- a word in an array, and where that begins
array_at : (words : List Word) (k j : ℕ) → array_of words k ≡ Some j → (k - j < array_length words j) × (j < length words)
array_at words k j h =
    let it = found_at (λ i. nat_le i k && nat_lt (k - i) (array_length words i)) 0 (length words) j h in
    (lt_from (k - j) (array_length words j) (and_parts (nat_le j k) (nat_lt (k - j) (array_length words j)) it.0).1, omega (arith, it.1))

-- no word has the name of an array
not_its_name : (words : List Word) (j k i : ℕ) → IsLayout words → j < length words → array_of words k ≡ Some i → name_at words j ≡ base_of (name_at words i) → ⊥
not_its_name words j k i layout h e same =
    let none = (array_parts words i (k - i) (array_at words k i e).0).1 in
    let some = found words j layout h in
    let clash : Some j ≡ None = sym some ∙ ap (index_of words) same ∙ none in
    cc clash

-- arrays of one name are the same
same_array : (words : List Word) (j k f g : ℕ) → IsLayout words → array_of words j ≡ Some f → array_of words k ≡ Some g → base_of (name_at words f) ≡ base_of (name_at words g) → f ≡ g
same_array words j k f g layout e h same =
    let first = array_at words j f e in
    let second = array_at words k g h in
    let names : name_at words f ≡ name_at words g =
    array_begins words f (j - f) first.0 ∙ ap (λ t. t ++ (codes "_" ++ decimal 0)) same ∙ sym (array_begins words g (k - g) second.0) in
    same_word words f g layout first.1 second.1 names

pub members_stay_apart : MembersStayApart
members_stay_apart words layout j k h g same = by (array_of words j) (array_of words k) refl refl same
  where
    name_of : Option ℕ → ℕ → List ℕ
    name_of o i = option_map_or (array_name words) o (c_name (name_at words i))

    by : (o p : Option ℕ) → array_of words j ≡ o → array_of words k ≡ p → name_of o j ≡ name_of p k → (array_of words j ≡ array_of words k) × (array_of words k ≡ None → j ≡ k)
    by None None e f n = (e ∙ sym f, λ _. same_word words j k layout h g (names_stay_apart _ _ n))
    by None (Some i) e f n = absurd (not_its_name words j k i layout h f (names_stay_apart _ _ n))
    by (Some i) None e f n = absurd (not_its_name words k j i layout g e (sym (names_stay_apart _ _ n)))
    by (Some a) (Some b) e f n =
        let is = same_array words j k a b layout e f (names_stay_apart _ _ n) in
        let both : array_of words j ≡ array_of words k = e ∙ ap (λ i. Some i) is ∙ sym f in
        (both, λ none. absurd (clash (sym f ∙ none)))
      where
        clash : Some b ≡ None → ⊥
        clash q = cc q
