-- How names are spelled.
use Rattle.std.proofs.Common.{◌≡◌, ℕ, ◌<◌, ◌+◌, Bool, true, false, not, List, [], ◌∷◌, length, refl, arith, suc, cond}
use Rattle.std.specs.Prelude.{◌&&◌}
use Rattle.std.specs.List.{list_all, prefix_len}
use Rattle.std.specs.Str.{IsAscii, IsUtf8}
use Rattle.std.proofs.lemmas.Str.Ascii.{IsAscii-nil, IsAscii-cons}
use Rattle.std.proofs.lemmas.Str.{IsUtf8-from_ascii}
use Rattle.std.proofs.lemmas.Bool.Decides.{nat_tests}
use Rattle.rg_words.specs.Names.{is_word_start, is_word_byte, is_word, is_keyword, is_name}

-- a text is a name where it is spelled as a word and is no keyword
pub name_from : (text : List ℕ) → is_word text ≡ true → is_keyword text ≡ false → is_name text ≡ true
unfolding is_name
name_from text word free = rw (word, free) refl

and_left : (a b : Bool) → (a && b) ≡ true → a ≡ true
and_left true b h = refl
and_left false b h = cc

and_right : (a b : Bool) → (a && b) ≡ true → b ≡ true
and_right true b h = h
and_right false b h = cc

pub word_from : (text : List ℕ) → is_name text ≡ true → is_word text ≡ true
unfolding is_name
word_from text h = and_left (is_word text) (not (is_keyword text)) h

one_more : (b : Bool) (k n : ℕ) → cond b (1 + k) 0 ≡ suc n → (b ≡ true) × (k ≡ n)
one_more true k n h = (refl, omega (arith, h))
one_more false k n h = absurd (omega (arith, h))

-- the first byte, and so many more that a word may have, spell a word
pub is_word-prefix_len : (b : ℕ) (bs : List ℕ) → is_word_start b ≡ true → prefix_len is_word_byte bs ≡ length bs → is_word (b ∷ bs) ≡ true
is_word-prefix_len b bs start all = rw (start, all_from bs all) refl
  where
    all_from : (bs : List ℕ) → prefix_len is_word_byte bs ≡ length bs → list_all is_word_byte bs ≡ true
    all_from [] h = refl
    all_from (x ∷ xs) h =
        let both : (is_word_byte x ≡ true) × (prefix_len is_word_byte xs ≡ length xs) = one_more (is_word_byte x) _ _ h in
        rw (both.0, all_from xs both.1) refl

start_below : (b : ℕ) → is_word_start b ≡ true → b < 128
start_below b h = grind (arith, nat_tests)

byte_below : (b : ℕ) → is_word_byte b ≡ true → b < 128
byte_below b h = grind (arith, nat_tests)

bytes_ascii : (bs : List ℕ) → list_all is_word_byte bs ≡ true → IsAscii bs
bytes_ascii [] h = IsAscii-nil
bytes_ascii (b ∷ bs) h = IsAscii-cons b bs (byte_below b (and_left (is_word_byte b) (list_all is_word_byte bs) h)) (bytes_ascii bs (and_right (is_word_byte b) (list_all is_word_byte bs) h))

word_ascii : (text : List ℕ) → is_word text ≡ true → IsAscii text
word_ascii [] h = cc
word_ascii (b ∷ bs) h = IsAscii-cons b bs (start_below b (and_left (is_word_start b) (list_all is_word_byte bs) h)) (bytes_ascii bs (and_right (is_word_start b) (list_all is_word_byte bs) h))

-- a name is ASCII
pub IsName-IsAscii : (text : List ℕ) → is_name text ≡ true → IsAscii text
IsName-IsAscii text h = word_ascii text (word_from text h)

pub IsName-IsUtf8 : (text : List ℕ) → is_name text ≡ true → IsUtf8 text
IsName-IsUtf8 text h = IsUtf8-from_ascii text (IsName-IsAscii text h)

-- what is no text is no name
pub no_text_no_name : (bytes : List ℕ) → ¬ (IsUtf8 bytes) → is_name bytes ≡ false
no_text_no_name bytes none = is_false (is_name bytes) (λ (h : is_name bytes ≡ true). none (IsName-IsUtf8 bytes h))
  where
    is_false : (b : Bool) → (b ≡ true → ⊥) → b ≡ false
    is_false true h = absurd (h refl)
    is_false false h = refl
