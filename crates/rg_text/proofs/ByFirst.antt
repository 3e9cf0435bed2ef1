-- The kind of a text, known by its first byte: a word where that is a letter or `_`, a number where it is a digit, else a symbol.
use Rattle.std.proofs.Common.{◌≡◌, ℕ, zero, suc, ◌+◌, ◌-◌, ◌<◌, ◌≤◌, min, Bool, true, false, not, ◌&&◌, cond, eqb, List, [], ◌∷◌, length, take, get_or, Option, Some, None, refl, sym, ap, ◌∙◌, arith, length-take}
use Rattle.std.specs.Prelude.{is_none}
use Rattle.std.specs.Char.{is_ascii_digit}
use Rattle.std.specs.List.{prefix_len, list_all}
use Rattle.std.proofs.lemmas.Bool.{eqb-true, eqb-false, ne_eqb}
use Rattle.std.proofs.lemmas.Bool.Decides.{nat_tests}
use Rattle.std.proofs.lemmas.List.Folds.{length-prefix_len}
use Rattle.std.proofs.lemmas.List.Sums.{prefix_len-le-length, AllPass-from_list_all}
use Rattle.rg_words.specs.Names.{is_word_start, is_word_byte, is_keyword, is_word, is_name}
use Rattle.rg_text.specs.declared.kind.Kind.{Kind}
use Rattle.rg_text.specs.declared.kind.Kind.TheVariants.{Name, Primed, Number, Fixed}
use Rattle.rg_text.specs.declared.kind.Terminal.{Terminal}
use Rattle.rg_text.specs.Spelling.{keyword_of, symbol_of, is_primed, is_number, fixed_kind, kind_of_text}
use Rattle.rg_text.specs.Tokenization.{BeginsNoToken}
use Rattle.rg_text.proofs.KeywordTables.{no_keyword, no_word_no_keyword, no_symbol_there}

-- a word is a keyword or a name
abbrev pub named : Option Terminal → Kind
named (Some t) = Fixed t
named None = Name

-- a word, or a word that is no keyword with a prime directly after it
unfoldable pub word_kind : List ℕ → Option Kind
word_kind text =
    let n = prefix_len is_word_byte text in
    cond (eqb n (length text)) (Some (named (keyword_of text)))
    (cond (eqb (n + 1) (length text) && (eqb (get_or text n 0) 39 && is_none (keyword_of (take n text)))) (Some Primed) None)

unfoldable pub number_kind : List ℕ → Option Kind
number_kind text = cond (eqb (prefix_len is_ascii_digit text) (length text)) (Some Number) None

unfoldable pub symbol_kind : List ℕ → Option Kind
symbol_kind text = fixed_kind None (symbol_of text)

abbrev pub by_first : List ℕ → Option Kind
by_first [] = None
by_first (b ∷ bs) =
    cond (is_word_start b) (word_kind (b ∷ bs))
    (cond (is_ascii_digit b) (number_kind (b ∷ bs)) (symbol_kind (b ∷ bs)))

pub prefix_len-take : (p : ℕ → Bool) (m : ℕ) (xs : List ℕ) → prefix_len p (take m xs) ≡ min m (prefix_len p xs)
prefix_len-take p zero xs = omega arith
prefix_len-take p (suc m) [] = omega arith
prefix_len-take p (suc m) (x ∷ xs) = go (p x) (prefix_len-take p m xs)
  where
    go : (b : Bool) → prefix_len p (take m xs) ≡ min m (prefix_len p xs) → cond b (1 + prefix_len p (take m xs)) 0 ≡ min (suc m) (cond b (1 + prefix_len p xs) 0)
    go true e = omega arith
    go false e = omega arith

eqb_next : (a b : ℕ) → eqb (1 + a) (suc b) ≡ eqb a b
eqb_next a b = grind (arith, nat_tests)

all_is_prefix : (p : ℕ → Bool) (xs : List ℕ) → eqb (prefix_len p xs) (length xs) ≡ list_all p xs
all_is_prefix p [] = refl
all_is_prefix p (x ∷ xs) = go (p x) (all_is_prefix p xs)
  where
    go : (v : Bool) → eqb (prefix_len p xs) (length xs) ≡ list_all p xs → eqb (cond v (1 + prefix_len p xs) 0) (suc (length xs)) ≡ (v && list_all p xs)
    go true h = eqb_next (prefix_len p xs) (length xs) ∙ h
    go false h = ne_eqb 0 (suc (length xs)) (λ e. absurd (omega arith))

-- all of the bytes that pass pass
all_prefix : (p : ℕ → Bool) (xs : List ℕ) → list_all p (take (prefix_len p xs) xs) ≡ true
all_prefix p xs =
    let n = prefix_len p xs in
    let e : prefix_len p (take n xs) ≡ n = prefix_len-take p n xs ∙ (omega arith) in
    sym (all_is_prefix p (take n xs)) ∙ ap (λ x. eqb x (length (take n xs))) e ∙ ap (eqb n) (length-prefix_len p xs) ∙ same n
  where
    same : (n : ℕ) → eqb n n ≡ true
    same n = grind (arith, nat_tests)

-- the parts of the definition, put in
kind_at : (text : List ℕ) (v w x : Bool) (k s : Option Terminal) → is_name text ≡ v → is_primed text ≡ w → is_number text ≡ x → keyword_of text ≡ k → symbol_of text ≡ s → kind_of_text text ≡ cond v (Some Name) (cond w (Some Primed) (cond x (Some Number) (fixed_kind k s)))
unfolding kind_of_text
kind_at text v w x k s a b c d e = λ i.
    cond (a i) (Some Name) (cond (b i) (Some Primed) (cond (c i) (Some Number) (fixed_kind (d i) (e i))))

name_is : (text : List ℕ) (v w : Bool) → is_word text ≡ v → is_keyword text ≡ w → is_name text ≡ (v && not w)
unfolding is_name
name_is text v w a b = λ i. a i && not (b i)

no_name : (text : List ℕ) → is_word text ≡ false → is_name text ≡ false
no_name text h = name_is text false (is_keyword text) h refl

not_primed : (text : List ℕ) → is_name (take (length text - 1) text) ≡ false → is_primed text ≡ false
not_primed text h = ap (λ v. v && eqb (get_or text (length text - 1) 0) 39) h

and_false : (v : Bool) → (v && false) ≡ false
and_false true = refl
and_false false = refl

swap : (v w : Bool) → (v && w) ≡ (w && v)
swap true true = refl
swap true false = refl
swap false true = refl
swap false false = refl

flip : (v w : Bool) → not v ≡ w → v ≡ not w
flip true true h = cc
flip true false h = refl
flip false true h = refl
flip false false h = cc

-- a text that begins with no letter and no `_`
module _ (b : ℕ) (no_start : is_word_start b ≡ false) where
  no_word : (m : ℕ) (bs : List ℕ) → is_word (take m (b ∷ bs)) ≡ false
  no_word zero bs = refl
  no_word (suc m) bs = ap (λ v. v && list_all is_word_byte (take m bs)) no_start

  no_word_all : (bs : List ℕ) → is_word (b ∷ bs) ≡ false
  no_word_all bs = ap (λ v. v && list_all is_word_byte bs) no_start

  begins_else : (bs : List ℕ) (x : Bool) (s : Option Terminal) → is_number (b ∷ bs) ≡ x → symbol_of (b ∷ bs) ≡ s → kind_of_text (b ∷ bs) ≡ cond x (Some Number) (fixed_kind None s)
  begins_else bs x s c e =
      kind_at (b ∷ bs) false false x None s
      (no_name (b ∷ bs) (no_word_all bs))
      (not_primed (b ∷ bs) (no_name (take (length (b ∷ bs) - 1) (b ∷ bs)) (no_word (length (b ∷ bs) - 1) bs)))
      c
      (no_word_no_keyword (b ∷ bs) (no_word_all bs))
      e

  number_first : (bs : List ℕ) → is_ascii_digit b ≡ true → kind_of_text (b ∷ bs) ≡ number_kind (b ∷ bs)
  unfolding number_kind
  number_first bs digit =
      let byte : is_word_byte b ≡ true = grind (arith, nat_tests) in
      begins_else bs (list_all is_ascii_digit (b ∷ bs)) None refl (no_symbol_there b bs byte)
      ∙ ap (λ v. cond v (Some Number) None) (sym (all_is_prefix is_ascii_digit (b ∷ bs)))

  symbol_first : (bs : List ℕ) → is_ascii_digit b ≡ false → kind_of_text (b ∷ bs) ≡ symbol_kind (b ∷ bs)
  unfolding symbol_kind
  symbol_first bs no_digit =
      begins_else bs false (symbol_of (b ∷ bs)) (ap (λ v. v && list_all is_ascii_digit bs) no_digit) refl

no_start_of_digit : (b : ℕ) → is_ascii_digit b ≡ true → is_word_start b ≡ false
no_start_of_digit b d = grind (arith, nat_tests)

no_digit_of_start : (b : ℕ) → is_word_start b ≡ true → is_ascii_digit b ≡ false
no_digit_of_start b d = grind (arith, nat_tests)

byte_of_start : (b : ℕ) → is_word_start b ≡ true → is_word_byte b ≡ true
byte_of_start b d = grind (arith, nat_tests)

-- a text that begins with a letter or `_`
module _ (b : ℕ) (start : is_word_start b ≡ true) where
  word_front : (m : ℕ) (bs : List ℕ) → 0 < m → is_word (take m (b ∷ bs)) ≡ list_all is_word_byte (take m (b ∷ bs))
  word_front zero bs lt = absurd (omega arith)
  word_front (suc m) bs lt =
      ap (λ v. v && list_all is_word_byte (take m bs)) (start ∙ sym (byte_of_start b start))

  word_all : (bs : List ℕ) → is_word (b ∷ bs) ≡ list_all is_word_byte (b ∷ bs)
  word_all bs = ap (λ v. v && list_all is_word_byte bs) (start ∙ sym (byte_of_start b start))

  no_number : (bs : List ℕ) → is_number (b ∷ bs) ≡ false
  no_number bs = ap (λ v. v && list_all is_ascii_digit bs) (no_digit_of_start b start)

  -- word bytes alone: a keyword or a name
  whole_word : (bs : List ℕ) → list_all is_word_byte (b ∷ bs) ≡ true → kind_of_text (b ∷ bs) ≡ Some (named (keyword_of (b ∷ bs)))
  whole_word bs all = go (keyword_of (b ∷ bs)) refl
    where
      text : List ℕ
      text = b ∷ bs

      last : eqb (get_or text (length text - 1) 0) 39 ≡ false
      last =
          let passes : is_word_byte (get_or text (length text - 1) 0) ≡ true = AllPass-from_list_all is_word_byte text all (length text - 1) 0 (omega arith) in
          no_prime (get_or text (length text - 1) 0) passes
        where
          no_prime : (c : ℕ) → is_word_byte c ≡ true → eqb c 39 ≡ false
          no_prime c h = grind (arith, nat_tests)

      unprimed : is_primed text ≡ false
      unprimed = ap (λ v. is_name (take (length text - 1) text) && v) last ∙ and_false (is_name (take (length text - 1) text))

      keyword_test : (o : Option Terminal) → keyword_of text ≡ o → is_keyword text ≡ not (is_none o)
      keyword_test o e = flip (is_keyword text) (is_none o) (sym (no_keyword text) ∙ ap is_none e)

      go : (o : Option Terminal) → keyword_of text ≡ o → kind_of_text text ≡ Some (named (keyword_of text))
      go (Some t) e =
          kind_at text false false false (Some t) (symbol_of text) (name_is text true true (word_all bs ∙ all) (keyword_test (Some t) e)) unprimed (no_number bs) e refl
          ∙ ap (λ o. Some (named o)) (sym e)
      go None e =
          kind_at text true false false None (symbol_of text) (name_is text true false (word_all bs ∙ all) (keyword_test None e)) unprimed (no_number bs) e refl
          ∙ ap (λ o. Some (named o)) (sym e)

  -- and more after the word: a prime alone counts
  module _ (bs : List ℕ) (more : list_all is_word_byte (b ∷ bs) ≡ false) where
    abbrev text : List ℕ
    text = b ∷ bs

    abbrev end : ℕ
    end = prefix_len is_word_byte text

    begins : 0 < end
    begins = let e = byte_of_start b start in rw e (omega arith)

    shorter : end < length text
    shorter =
        let apart = eqb-false end (length text) (all_is_prefix is_word_byte text ∙ more) in
        omega (arith, prefix_len-le-length is_word_byte text)

    no_word_there : is_word text ≡ false
    no_word_there = word_all bs ∙ more

    front_name : is_name (take end text) ≡ is_none (keyword_of (take end text))
    front_name =
        name_is (take end text) true (is_keyword (take end text)) (word_front end bs begins ∙ all_prefix is_word_byte text) refl ∙ sym (no_keyword (take end text))

    longer_no_name : (m : ℕ) → end < m → m ≤ length text → is_name (take m text) ≡ false
    longer_no_name m lt le =
        no_name (take m text)
        (word_front m bs (omega arith)
        ∙ sym (all_is_prefix is_word_byte (take m text))
        ∙ ap (λ n. eqb n (length (take m text))) (prefix_len-take is_word_byte m text)
        ∙ ne_eqb (min m end) (length (take m text)) (λ e. absurd (omega (arith, length-take m text))))

    prime_after : (v : Bool) → eqb (end + 1) (length text) ≡ v → is_primed text ≡ (v && (eqb (get_or text end 0) 39 && is_none (keyword_of (take end text))))
    prime_after true e =
        let ends = eqb-true (end + 1) (length text) e in
        let at : length text - 1 ≡ end = omega arith in
        ap (λ n. is_name (take n text) && eqb (get_or text n 0) 39) at
        ∙ ap (λ v. v && eqb (get_or text end 0) 39) front_name
        ∙ swap (is_none (keyword_of (take end text))) (eqb (get_or text end 0) 39)
    prime_after false e =
        let apart = eqb-false (end + 1) (length text) e in
        let here = shorter in
        not_primed text (longer_no_name (length text - 1) (omega arith) (omega arith))

    word_and_more : kind_of_text text ≡ word_kind text
    unfolding word_kind
    word_and_more =
        kind_at text false (is_primed text) false None None (no_name text no_word_there) refl (no_number bs) (no_word_no_keyword text no_word_there) (no_symbol_there b bs (byte_of_start b start))
        ∙ ap (λ v. cond v (Some Primed) None) (prime_after (eqb (end + 1) (length text)) refl)
        ∙ sym (ap (λ v. cond v (Some (named (keyword_of text))) (cond (eqb (end + 1) (length text) && (eqb (get_or text end 0) 39 && is_none (keyword_of (take end text)))) (Some Primed) None)) (all_is_prefix is_word_byte text ∙ more))

  whole_is : (bs : List ℕ) → list_all is_word_byte (b ∷ bs) ≡ true → word_kind (b ∷ bs) ≡ Some (named (keyword_of (b ∷ bs)))
  unfolding word_kind
  whole_is bs all =
      let e = all_is_prefix is_word_byte (b ∷ bs) ∙ all in rw e refl

  word_first : (bs : List ℕ) → kind_of_text (b ∷ bs) ≡ word_kind (b ∷ bs)
  word_first bs = go (list_all is_word_byte (b ∷ bs)) refl
    where
      go : (v : Bool) → list_all is_word_byte (b ∷ bs) ≡ v → kind_of_text (b ∷ bs) ≡ word_kind (b ∷ bs)
      go true e = whole_word bs e ∙ sym (whole_is bs e)
      go false e = word_and_more bs e

nothing : symbol_of [] ≡ None
unfolding symbol_of
nothing = refl

pub kind_by_first : (text : List ℕ) → kind_of_text text ≡ by_first text
kind_by_first [] =
    kind_at [] false false false None None (no_name [] refl) (not_primed [] (no_name [] refl)) refl (no_word_no_keyword [] refl) nothing
kind_by_first (b ∷ bs) = go (is_word_start b) (is_ascii_digit b) refl refl
  where
    go : (v w : Bool) → is_word_start b ≡ v → is_ascii_digit b ≡ w → kind_of_text (b ∷ bs) ≡ cond v (word_kind (b ∷ bs)) (cond w (number_kind (b ∷ bs)) (symbol_kind (b ∷ bs)))
    go true w e f = word_first b e bs
    go false true e f = number_first b e bs f
    go false false e f = symbol_first b e bs f

-- no bytes are no token
pub no_bytes : (bytes : List ℕ) → length bytes ≤ 0 → BeginsNoToken bytes
no_bytes [] h zero le = kind_by_first []
no_bytes [] h (suc m) le = kind_by_first []
no_bytes (b ∷ bs) h m le = absurd (omega arith)
