-- Names are text, and numbers of more digits are no smaller.
use Rattle.std.proofs.Common.{◌≡◌, ℕ, ◌+◌, ◌*◌, ◌<◌, ◌≤◌, true, List, [], ◌∷◌, length, refl, sym, subst, ◌∙◌, arith, get_or, ap, drop, suc, drop-cons}
use Rattle.std.specs.Prelude.{Option, Some, None, All}
use Rattle.std.specs.List.{list_all}
use Rattle.std.specs.Char.{digit_value}
use Rattle.std.specs.Str.{IsUtf8, IsAscii, bytes_eq}
use Rattle.std.specs.Str.Parse.{digits_value_after}
use Rattle.std.proofs.lemmas.Bool.{and_parts}
use Rattle.std.proofs.lemmas.Str.{IsUtf8-from_ascii}
use Rattle.std.proofs.lemmas.Bool.Decides.{nat_tests}
use Rattle.std.proofs.lemmas.Str.Ascii.{IsAscii-nil, IsAscii-cons}
use Rattle.std.proofs.lemmas.Slice.Eq.{bytes_eq-Decides}
use Rattle.std.proofs.Math.ListN.{drop_of_length-le}
use Rattle.std.proofs.lemmas.List.Quantifiers.{position-Some}
use Rattle.rg_words.specs.Names.{IsName, is_name, is_word, is_word_start, is_word_byte}
use Rattle.rg_words.specs.Layout.{Word, IsLayout, index_of}

-- a number grows with each digit
pub digits_grow : (n : ℕ) (digits : List ℕ) → n ≤ digits_value_after 10 n digits
digits_grow n [] = omega arith
digits_grow n (d ∷ ds) = omega (arith, digits_grow (n * 10 + digit_value d) ds)

-- the number up to a digit, and the rest
pub with_digit : (n i : ℕ) (digits : List ℕ) → i < length digits → digits_value_after 10 n (drop i digits) ≡ digits_value_after 10 (n * 10 + digit_value (get_or digits i 0)) (drop (suc i) digits)
with_digit n i digits inside = ap (λ ds. digits_value_after 10 n ds) (drop-cons digits i 0 inside)

pub no_less : (n i : ℕ) (digits : List ℕ) (value : ℕ) → i < length digits → digits_value_after 10 n (drop i digits) ≡ value → n * 10 + digit_value (get_or digits i 0) ≤ value
no_less n i digits value inside e =
    let grown = digits_grow (n * 10 + digit_value (get_or digits i 0)) (drop (suc i) digits) in
    let whole = with_digit n i digits inside in
    omega (arith, grown, whole, e)

pub no_more_digits : (n i : ℕ) (digits : List ℕ) (value : ℕ) → length digits ≤ i → digits_value_after 10 n (drop i digits) ≡ value → n ≡ value
no_more_digits n i digits value past e = sym (ap (λ ds. digits_value_after 10 n ds) (drop_of_length-le digits past)) ∙ e

byte_is_ascii : (b : ℕ) → is_word_byte b ≡ true → b < 128
byte_is_ascii b h = grind (arith, nat_tests)

start_is_ascii : (b : ℕ) → is_word_start b ≡ true → b < 128
start_is_ascii b h = grind (arith, nat_tests)

bytes_are_ascii : (bs : List ℕ) → list_all is_word_byte bs ≡ true → IsAscii bs
bytes_are_ascii [] h = IsAscii-nil
bytes_are_ascii (b ∷ bs) h = let both = and_parts _ _ h in IsAscii-cons b bs (byte_is_ascii b both.0) (bytes_are_ascii bs both.1)

word_is_ascii : (text : List ℕ) → is_word text ≡ true → IsAscii text
word_is_ascii [] h = IsAscii-nil
word_is_ascii (b ∷ bs) h = let both = and_parts _ _ h in IsAscii-cons b bs (start_is_ascii b both.0) (bytes_are_ascii bs both.1)

pub name_is_text : (text : List ℕ) → IsName text → IsUtf8 text
unfolding is_name
name_is_text text h = IsUtf8-from_ascii text (word_is_ascii text (and_parts _ _ h).0)

-- a word that is found has the name
found_is_text : (words : List Word) → All (λ w. IsName w.name) words → (name : List ℕ) (k : ℕ) → index_of words name ≡ Some k → IsUtf8 name
found_is_text [] names name k e = cc
found_is_text (w ∷ ws) names name k e =
    let found = position-Some (λ v. bytes_eq name v.name) (w ∷ ws) k w e in
    let same : name ≡ (get_or (w ∷ ws) k w).name = (bytes_eq-Decides name _).0 found.1 in
    let P : List ℕ → Type 0 = λ n. IsUtf8 n in
    subst P (sym same) (name_is_text _ (names k w found.0))

-- what is no text names no word
pub no_text_no_word : (words : List Word) (name : List ℕ) → IsLayout words → (IsUtf8 name → ⊥) → None ≡ index_of words name
no_text_no_word words name layout h = by (index_of words name) refl
  where
    by : (found : Option ℕ) → index_of words name ≡ found → None ≡ found
    by None e = refl
    by (Some k) e = absurd (h (found_is_text words layout.names name k e))
