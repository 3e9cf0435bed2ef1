-- The tables of keywords have the words that are kept for the language; no symbol begins as a word or a number does.
use Rattle.std.proofs.Common.{◌≡◌, ℕ, Bool, true, false, not, ◌&&◌, ◌||◌, cond, List, [], ◌∷◌, ◌++◌, map, get_or, Option, Some, None, refl, sym, ap, ◌∙◌}
use Rattle.std.specs.Prelude.{is_none}
use Rattle.std.specs.List.{list_any, list_all}
use Rattle.std.specs.Str.{bytes_eq}
use Rattle.std.proofs.lemmas.Bool.{and_parts}
use Rattle.std.proofs.lemmas.Slice.Eq.{bytes_eq-Decides}
use Rattle.rg_words.specs.Names.{is_word_byte, keywords, is_keyword, is_word}
use Rattle.rg_text.specs.declared.kind.Terminal.{Terminal}
use Rattle.rg_text.specs.declared.kind.Keyword.{Keyword}
use Rattle.rg_text.specs.Spelling.{formula_keywords, section_keywords, symbols, looked_up, either_keyword, keyword_of, symbol_of}

-- one of these texts
abbrev is_among : List (List ℕ) → List ℕ → Bool
is_among texts text = list_any (λ k. bytes_eq text k) texts

abbrev texts_of : {X : Type 0} → List (List ℕ × X) → List (List ℕ)
texts_of rows = map (λ row. row.0) rows

same_bits : (a b : Bool) → (a ≡ true → b ≡ true) → (b ≡ true → a ≡ true) → a ≡ b
same_bits true true f g = refl
same_bits true false f g = sym (f refl)
same_bits false true f g = g refl
same_bits false false f g = refl

-- a table has a text just where one of its texts is it
found : {X : Type 0} (rows : List (List ℕ × X)) (text : List ℕ) → is_none (looked_up rows text) ≡ not (is_among (texts_of rows) text)
found [] text = refl
found (row ∷ rows) text = go (bytes_eq text row.0) (found rows text)
  where
    go : (v : Bool) → is_none (looked_up rows text) ≡ not (is_among (texts_of rows) text) → is_none (cond v (Some row.1) (looked_up rows text)) ≡ not (v || is_among (texts_of rows) text)
    go true h = refl
    go false h = h

among_both : (xs ys : List (List ℕ)) (text : List ℕ) → is_among (xs ++ ys) text ≡ (is_among xs text || is_among ys text)
among_both [] ys text = refl
among_both (x ∷ xs) ys text = go (bytes_eq text x) (among_both xs ys text)
  where
    go : (v : Bool) → is_among (xs ++ ys) text ≡ (is_among xs text || is_among ys text) → (v || is_among (xs ++ ys) text) ≡ ((v || is_among xs text) || is_among ys text)
    go true h = refl
    go false h = h

-- where others have each of these texts, a text that is one of these is one of the others
covered : (text : List ℕ) (ks others : List (List ℕ)) → list_all (is_among others) ks ≡ true → is_among ks text ≡ true → is_among others text ≡ true
covered text [] others all any = cc
covered text (k ∷ ks) others all any =
    let both = and_parts (is_among others k) (list_all (is_among others) ks) all in
    go (bytes_eq text k) refl any (covered text ks others both.1) both.0
  where
    go : (v : Bool) → bytes_eq text k ≡ v → (v || is_among ks text) ≡ true → (is_among ks text ≡ true → is_among others text ≡ true) → is_among others k ≡ true → is_among others text ≡ true
    go true e h rest here = ap (is_among others) ((bytes_eq-Decides text k).0 e) ∙ here
    go false e h rest here = rest h

abbrev all_texts : List (List ℕ)
all_texts = texts_of formula_keywords ++ texts_of section_keywords

keywords_same : (text : List ℕ) → is_among all_texts text ≡ is_keyword text
unfolding is_keyword keywords
keywords_same text =
    same_bits (is_among all_texts text) (is_among keywords text) (covered text all_texts keywords refl) (covered text keywords all_texts refl)

none_either : (a : Option Terminal) (b : Option Keyword) → is_none (either_keyword a b) ≡ (is_none a && is_none b)
none_either (Some t) b = refl
none_either None (Some k) = refl
none_either None None = refl

not_both : (a b : Bool) → (not a && not b) ≡ not (a || b)
not_both true b = refl
not_both false b = refl

-- a text is in the tables just where it is kept for the language
pub no_keyword : (text : List ℕ) → is_none (keyword_of text) ≡ not (is_keyword text)
unfolding keyword_of
no_keyword text =
    none_either (looked_up formula_keywords text) (looked_up section_keywords text)
    ∙ ap (λ v. v && is_none (looked_up section_keywords text)) (found formula_keywords text)
    ∙ ap (λ v. not (is_among (texts_of formula_keywords) text) && v) (found section_keywords text)
    ∙ not_both (is_among (texts_of formula_keywords) text) (is_among (texts_of section_keywords) text)
    ∙ ap not (sym (among_both (texts_of formula_keywords) (texts_of section_keywords) text))
    ∙ ap not (keywords_same text)

all_words : (text : List ℕ) (ks : List (List ℕ)) → list_all is_word ks ≡ true → is_among ks text ≡ true → is_word text ≡ true
all_words text [] all any = cc
all_words text (k ∷ ks) all any =
    let both = and_parts (is_word k) (list_all is_word ks) all in
    go (bytes_eq text k) refl any (all_words text ks both.1) both.0
  where
    go : (v : Bool) → bytes_eq text k ≡ v → (v || is_among ks text) ≡ true → (is_among ks text ≡ true → is_word text ≡ true) → is_word k ≡ true → is_word text ≡ true
    go true e h rest here = ap is_word ((bytes_eq-Decides text k).0 e) ∙ here
    go false e h rest here = rest h

keyword_is_word : (text : List ℕ) → is_keyword text ≡ true → is_word text ≡ true
unfolding is_keyword keywords
keyword_is_word text h = all_words text keywords refl h

none_is : (o : Option Terminal) → is_none o ≡ true → o ≡ None
none_is None h = refl
none_is (Some t) h = cc

-- what is no word is no keyword
pub no_word_no_keyword : (text : List ℕ) → is_word text ≡ false → keyword_of text ≡ None
no_word_no_keyword text h = none_is (keyword_of text) (no_keyword text ∙ ap not (go (is_keyword text) refl))
  where
    go : (v : Bool) → is_keyword text ≡ v → v ≡ false
    go true e = let w = keyword_is_word text e in cc
    go false e = refl

not_there : {X : Type 0} (p : ℕ → Bool) (rows : List (List ℕ × X)) (b : ℕ) (bs : List ℕ) → list_all (λ row. not (p (get_or row.0 0 0))) rows ≡ true → p b ≡ true → looked_up rows (b ∷ bs) ≡ None
not_there p [] b bs all h = refl
not_there p (row ∷ rows) b bs all h =
    let both = and_parts (not (p (get_or row.0 0 0))) (list_all (λ row. not (p (get_or row.0 0 0))) rows) all in
    go (bytes_eq (b ∷ bs) row.0) refl (not_there p rows b bs both.1 h) both.0
  where
    go : (v : Bool) → bytes_eq (b ∷ bs) row.0 ≡ v → looked_up rows (b ∷ bs) ≡ None → not (p (get_or row.0 0 0)) ≡ true → cond v (Some row.1) (looked_up rows (b ∷ bs)) ≡ None
    go true e rest fails =
        let same : b ≡ get_or row.0 0 0 = ap (λ text. get_or text 0 0) ((bytes_eq-Decides (b ∷ bs) row.0).0 e) in
        let fails : not (p b) ≡ true = ap (λ x. not (p x)) same ∙ fails in
        let fails : not true ≡ true = rw h at fails in
        cc
    go false e rest fails = rest

-- no symbol begins with a letter, `_` or a digit
pub no_symbol_there : (b : ℕ) (bs : List ℕ) → is_word_byte b ≡ true → symbol_of (b ∷ bs) ≡ None
unfolding symbol_of
no_symbol_there b bs h = not_there is_word_byte symbols b bs refl h
