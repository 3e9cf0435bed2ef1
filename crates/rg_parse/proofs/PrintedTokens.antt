-- The words, numbers and symbols of a printed text are tokens.
use Rattle.std.proofs.Common.{◌≡◌, ℕ, ◌+◌, ◌<◌, ◌^◌, Bool, true, false, not, ◌&&◌, eqb, List, [], ◌∷◌, ◌++◌, length, take, get_or, Option, Some, None, refl, ap, subst, ◌∙◌, arith, codes, append_assoc, length-append}
use Rattle.std.specs.Prelude.{is_none}
use Rattle.std.specs.List.{prefix_len, list_all}
use Rattle.std.specs.Char.{is_ascii_digit}
use Rattle.std.specs.Fmt.{decimal}
use Rattle.std.specs.Str.Parse.{AllDigits}
use Rattle.std.proofs.Math.Seq.{take-append_seam, get_or-append_seam}
use Rattle.std.proofs.lemmas.Bool.{and_parts}
use Rattle.std.proofs.lemmas.Bool.Decides.{nat_tests}
use Rattle.std.proofs.lemmas.Fmt.{decimal_is_IsNumeral}
use Rattle.std.proofs.lemmas.Str.Parse.{digit_at}
use Rattle.rg_words.specs.declared.operators.Comparison.{Comparison}
use Rattle.rg_words.specs.declared.operators.Comparison.TheVariants as comparisons
use Rattle.rg_words.specs.declared.operators.Connective.{Connective}
use Rattle.rg_words.specs.declared.operators.Connective.TheVariants as connectives
use Rattle.rg_words.specs.declared.operators.Operator.{Operator}
use Rattle.rg_words.specs.declared.operators.Operator.TheVariants as operators
use Rattle.rg_words.specs.declared.operators.Shift.{Shift}
use Rattle.rg_words.specs.declared.operators.Shift.TheVariants as shifts
use Rattle.rg_words.specs.Names.{is_word_start, is_word_byte, is_word, is_name, IsName}
use Rattle.rg_text.specs.declared.kind.Kind.TheVariants.{Name, Primed, Number, Fixed}
use Rattle.rg_text.specs.declared.kind.Terminal.{Terminal}
use Rattle.rg_text.specs.declared.kind.Terminal.TheVariants.{Open, Close, Compare, Operate, ShiftBy, Join, Imply, Truth, Not, Inv, If, Then, Else}
use Rattle.rg_text.specs.declared.kind.Junction.TheVariants as junctions
use Rattle.rg_text.specs.declared.kind.Conditional.TheVariants as conditionals
use Rattle.rg_text.specs.Spelling.{keyword_of, symbol_of}
use Rattle.rg_text.specs.Tokenization.{is_white_space, gap_len, IsLongest}
use Rattle.rg_text.proofs.ByFirst.{named}
use Rattle.rg_text.proofs.KeywordTables.{no_keyword}
use Rattle.rg_text.proofs.Longest.{longest_number, longest_word, longest_primed}
use Rattle.rg_text.proofs.Symbols.{longest_short, longest_long}
use Rattle.rg_tree.specs.Printed.{operator_text, shift_text, comparison_text, connective_text, truth_text, between}
use Rattle.rg_syntax.specs.Grammar.{Lexeme, fixed, lexeme_as}
use Rattle.rg_parse.proofs.PrintedStands.{printed_leaf}
use Rattle.rg_parse.proofs.PrintedCuts.{Cut, IsToken, cut_space, cut_token}

-- what may stand after a word or a number: nothing, or a byte that is no part of a word and no prime
abbrev pub ends_word : List ℕ → Bool
ends_word [] = true
ends_word (b ∷ bs) = not (is_word_byte b) && not (eqb b 39)

-- bytes that pass, and then none
passes_to : (p : ℕ → Bool) (text rest : List ℕ) → list_all p text ≡ true → prefix_len p rest ≡ 0 → prefix_len p (text ++ rest) ≡ length text
passes_to p [] rest all none = none
passes_to p (b ∷ bs) rest all none =
    let here : p b ≡ true = (and_parts (p b) (list_all p bs) all).0 in
    let more : prefix_len p (bs ++ rest) ≡ length bs = passes_to p bs rest (and_parts (p b) (list_all p bs) all).1 none in
    rw here (omega (arith, more))

no_word_byte : (b : ℕ) → (not (is_word_byte b) && not (eqb b 39)) ≡ true → is_word_byte b ≡ false
no_word_byte b h = grind (arith, nat_tests)

no_digit : (b : ℕ) → (not (is_word_byte b) && not (eqb b 39)) ≡ true → is_ascii_digit b ≡ false
no_digit b h = grind (arith, nat_tests)

no_prime : (b : ℕ) → (not (is_word_byte b) && not (eqb b 39)) ≡ true → eqb b 39 ≡ false
no_prime b h = grind (arith, nat_tests)

word_stops : (rest : List ℕ) → ends_word rest ≡ true → prefix_len is_word_byte rest ≡ 0
word_stops [] h = refl
word_stops (b ∷ bs) h = let e = no_word_byte b h in rw e refl

number_stops : (rest : List ℕ) → ends_word rest ≡ true → prefix_len is_ascii_digit rest ≡ 0
number_stops [] h = refl
number_stops (b ∷ bs) h = let e = no_digit b h in rw e refl

-- no prime stands after
prime_stops : (text rest : List ℕ) → ends_word rest ≡ true → eqb (get_or (text ++ rest) (length text) 0) 39 ≡ false
prime_stops [] [] h = refl
prime_stops [] (b ∷ bs) h = no_prime b h
prime_stops (c ∷ text) rest h = prime_stops text rest h

word_of_start : (b : ℕ) → is_word_start b ≡ true → is_word_byte b ≡ true
word_of_start b h = grind (arith, nat_tests)

no_gap_byte : (b : ℕ) → is_word_byte b ≡ true → (is_white_space b ≡ false) × (eqb b 35 ≡ false)
no_gap_byte b h = (grind (arith, nat_tests), grind (arith, nat_tests))

gapless_at : (b : ℕ) (bs : List ℕ) → is_word_byte b ≡ true → gap_len (b ∷ bs) ≡ 0
gapless_at b bs h = let e = no_gap_byte b h in rw (e.0, e.1) refl

word_bytes : (b : ℕ) (bs : List ℕ) → is_word (b ∷ bs) ≡ true → list_all is_word_byte (b ∷ bs) ≡ true
word_bytes b bs h =
    let p = and_parts (is_word_start b) (list_all is_word_byte bs) h in
    let e : is_word_byte b ≡ true = word_of_start b p.0 in
    rw e p.1

-- a word with no word byte and no prime after it
pub word_token : (text rest : List ℕ) → is_word text ≡ true → ends_word rest ≡ true → IsToken text rest (named (keyword_of text))
word_token [] rest h e = cc
word_token (b ∷ bs) rest h e = record {
  longest = subst (λ t. IsLongest (b ∷ bs ++ rest) (length (b ∷ bs)) (named (keyword_of t))) (take-append_seam (b ∷ bs) rest)
      (subst (λ n. IsLongest (b ∷ bs ++ rest) n (named (keyword_of (take n (b ∷ bs ++ rest))))) far (longest_word b (bs ++ rest) start (no_prime_there (is_none (keyword_of (take (prefix_len is_word_byte (b ∷ bs ++ rest)) (b ∷ bs ++ rest)))))));
  gapless = gapless_at b (bs ++ rest) (word_of_start b start);
}
  where
    start : is_word_start b ≡ true
    start = (and_parts _ _ h).0

    far : prefix_len is_word_byte (b ∷ bs ++ rest) ≡ length (b ∷ bs)
    far = passes_to is_word_byte (b ∷ bs) rest (word_bytes b bs h) (word_stops rest e)

    no_prime_there : (v : Bool) → (eqb (get_or (b ∷ bs ++ rest) (prefix_len is_word_byte (b ∷ bs ++ rest)) 0) 39 && v) ≡ false
    no_prime_there v = ap (λ n. eqb (get_or (b ∷ bs ++ rest) n 0) 39 && v) far ∙ ap (λ x. x && v) (prime_stops (b ∷ bs) rest e)

name_is_word : (text : List ℕ) → IsName text → is_word text ≡ true
unfolding is_name
name_is_word text h = (and_parts _ _ h).0

none_is : (o : Option Terminal) → is_none o ≡ true → o ≡ None
none_is None h = refl
none_is (Some t) h = cc

name_no_keyword : (text : List ℕ) → IsName text → keyword_of text ≡ None
unfolding is_name
name_no_keyword text h = none_is _ (no_keyword text ∙ (and_parts _ _ h).1)

-- a name
pub name_token : (text rest : List ℕ) → IsName text → ends_word rest ≡ true → IsToken text rest Name
name_token text rest h e = subst (λ o. IsToken text rest (named o)) (name_no_keyword text h) (word_token text rest (name_is_word text h) e)

-- a name with a prime
primed_longest : (text rest : List ℕ) → IsName text → is_word text ≡ true → IsLongest (text ++ 39 ∷ rest) (length text + 1) Primed
primed_longest [] rest h w = cc
primed_longest (b ∷ bs) rest h w =
    subst (λ n. IsLongest (b ∷ bs ++ 39 ∷ rest) (n + 1) Primed) far (longest_primed b (bs ++ 39 ∷ rest) start room prime)
  where
    start : is_word_start b ≡ true
    start = (and_parts _ _ w).0

    far : prefix_len is_word_byte (b ∷ bs ++ 39 ∷ rest) ≡ length (b ∷ bs)
    far = passes_to is_word_byte (b ∷ bs) (39 ∷ rest) (word_bytes b bs w) refl

    room : prefix_len is_word_byte (b ∷ bs ++ 39 ∷ rest) < length (b ∷ bs ++ 39 ∷ rest)
    room = omega (arith, far, length-append (b ∷ bs) (39 ∷ rest))

    prime : (eqb (get_or (b ∷ bs ++ 39 ∷ rest) (prefix_len is_word_byte (b ∷ bs ++ 39 ∷ rest)) 0) 39 && is_none (keyword_of (take (prefix_len is_word_byte (b ∷ bs ++ 39 ∷ rest)) (b ∷ bs ++ 39 ∷ rest)))) ≡ true
    prime =
        ap (λ n. eqb (get_or (b ∷ bs ++ 39 ∷ rest) n 0) 39 && is_none (keyword_of (take n (b ∷ bs ++ 39 ∷ rest)))) far
        ∙ ap (λ c. eqb c 39 && is_none (keyword_of (take (length (b ∷ bs)) (b ∷ bs ++ 39 ∷ rest)))) (get_or-append_seam (b ∷ bs) 39 rest 0)
        ∙ ap (λ t. is_none (keyword_of t)) (take-append_seam (b ∷ bs) (39 ∷ rest))
        ∙ ap is_none (name_no_keyword (b ∷ bs) h)

word_gapless : (text rest : List ℕ) → is_word text ≡ true → gap_len (text ++ rest) ≡ 0
word_gapless [] rest h = cc
word_gapless (b ∷ bs) rest h = gapless_at b (bs ++ rest) (word_of_start b (and_parts _ _ h).0)

pub primed_token : (text rest : List ℕ) → IsName text → IsToken (text ++ 39 ∷ []) rest Primed
primed_token text rest h = record {
  longest = rw (append_assoc text (39 ∷ []) rest, length-append text (39 ∷ [])) (primed_longest text rest h (name_is_word text h));
  gapless = rw (append_assoc text (39 ∷ []) rest) (word_gapless text (39 ∷ rest) (name_is_word text h));
}

-- a keyword
pub keyword_token : (text rest : List ℕ) (t : Terminal) → is_word text ≡ true → keyword_of text ≡ Some t → ends_word rest ≡ true → IsToken text rest (Fixed t)
keyword_token text rest t w k e = subst (λ o. IsToken text rest (named o)) k (word_token text rest w e)

a_digit : (c : ℕ) → AllDigits 10 (c ∷ []) → is_ascii_digit c ≡ true
a_digit c h = let range = digit_at (c ∷ []) 0 h (omega arith) in grind (arith, nat_tests)

digits_pass : (ds : List ℕ) → AllDigits 10 ds → list_all is_ascii_digit ds ≡ true
digits_pass [] h = refl
digits_pass (d ∷ ds) h = let e = a_digit d (h.0, tt) in rw e (digits_pass ds h.1)

word_of_digit : (b : ℕ) → is_ascii_digit b ≡ true → is_word_byte b ≡ true
word_of_digit b h = grind (arith, nat_tests)

digits_token : (text rest : List ℕ) → 0 < length text → list_all is_ascii_digit text ≡ true → ends_word rest ≡ true → IsToken text rest Number
digits_token [] rest some h e = absurd (omega arith)
digits_token (b ∷ bs) rest some h e = record {
  longest = subst (λ n. IsLongest (b ∷ bs ++ rest) n Number) (passes_to is_ascii_digit (b ∷ bs) rest h (number_stops rest e)) (longest_number b (bs ++ rest) (and_parts _ _ h).0);
  gapless = gapless_at b (bs ++ rest) (word_of_digit b (and_parts _ _ h).0);
}

-- a number
pub number_token : (n : ℕ) (rest : List ℕ) → n < 2 ^ 64 → ends_word rest ≡ true → IsToken (decimal n) rest Number
number_token n rest small e =
    let digits = (decimal_is_IsNumeral n small).0 in
    digits_token (decimal n) rest digits.0 (digits_pass (decimal n) digits.1) e

-- a parenthesis before any text
open_longest : (s : List ℕ) → IsLongest (40 ∷ s) 1 (Fixed Open)
unfolding symbol_of
open_longest [] = longest_short 40 refl refl [] Open (λ room. absurd (omega arith)) refl
open_longest (b ∷ bs) = longest_short 40 refl refl (b ∷ bs) Open (λ room. refl) refl

close_longest : (s : List ℕ) → IsLongest (41 ∷ s) 1 (Fixed Close)
unfolding symbol_of
close_longest [] = longest_short 41 refl refl [] Close (λ room. absurd (omega arith)) refl
close_longest (b ∷ bs) = longest_short 41 refl refl (b ∷ bs) Close (λ room. refl) refl

pub cut_open : (s : List ℕ) (ls : List Lexeme) → Cut s ls → Cut (40 ∷ s) (fixed Open ∷ ls)
cut_open s ls h = cut_token (40 ∷ []) s (Fixed Open) ls (record { longest = open_longest s; gapless = refl }) h

pub cut_close : (s : List ℕ) (ls : List Lexeme) → Cut s ls → Cut (41 ∷ s) (fixed Close ∷ ls)
cut_close s ls h = cut_token (41 ∷ []) s (Fixed Close) ls (record { longest = close_longest s; gapless = refl }) h

-- a keyword or symbol before a space
abbrev pub IsSpaced : List ℕ → Terminal → Type 0
IsSpaced text t = (s : List ℕ) → IsToken text (32 ∷ s) (Fixed t)

pub cut_between : (text : List ℕ) (t : Terminal) (s : List ℕ) (ls : List Lexeme) → IsSpaced text t → Cut s ls → Cut (between text s) (lexeme_as (Fixed t) (printed_leaf text) ∷ ls)
cut_between text t s ls spaced h =
    cut_space (lexeme_as (Fixed t) (printed_leaf text) ∷ ls) (text ++ 32 ∷ s) (cut_token text (32 ∷ s) (Fixed t) ls (spaced s) (cut_space ls s h))

-- a keyword or symbol, and a space after it
pub cut_before_space : (text : List ℕ) (t : Terminal) (s : List ℕ) (ls : List Lexeme) → IsSpaced text t → Cut s ls → Cut (text ++ 32 ∷ s) (lexeme_as (Fixed t) (printed_leaf text) ∷ ls)
cut_before_space text t s ls spaced h = cut_token text (32 ∷ s) (Fixed t) ls (spaced s) (cut_space ls s h)

one_byte : (a : ℕ) (t : Terminal) → is_word_start a ≡ false → is_ascii_digit a ≡ false → symbol_of (a ∷ 32 ∷ []) ≡ None → symbol_of (a ∷ []) ≡ Some t → (is_white_space a ≡ false) → (eqb a 35 ≡ false) → IsSpaced (a ∷ []) t
one_byte a t w d two one space hash s = record { longest = longest_short a w d (32 ∷ s) t (λ room. two) one; gapless = rw (space, hash) refl }

two_bytes : (a b : ℕ) (t : Terminal) → is_word_start a ≡ false → is_ascii_digit a ≡ false → symbol_of (a ∷ b ∷ []) ≡ Some t → (is_white_space a ≡ false) → (eqb a 35 ≡ false) → IsSpaced (a ∷ b ∷ []) t
two_bytes a b t w d two space hash s = record { longest = longest_long a w d (b ∷ 32 ∷ s) t (omega arith) two; gapless = rw (space, hash) refl }

spaced_word : (text : List ℕ) (t : Terminal) → is_word text ≡ true → keyword_of text ≡ Some t → IsSpaced text t
spaced_word text t w k s = keyword_token text (32 ∷ s) t w k refl

pub operator_spaced : (o : Operator) → IsSpaced (operator_text o) (Operate o)
unfolding symbol_of keyword_of
operator_spaced operators.Add = one_byte 43 (Operate operators.Add) refl refl refl refl refl refl
operator_spaced operators.Subtract = one_byte 45 (Operate operators.Subtract) refl refl refl refl refl refl
operator_spaced operators.BitAnd = spaced_word (codes "band") (Operate operators.BitAnd) refl refl
operator_spaced operators.BitOr = spaced_word (codes "bor") (Operate operators.BitOr) refl refl
operator_spaced operators.BitXor = spaced_word (codes "bxor") (Operate operators.BitXor) refl refl

pub shift_spaced : (d : Shift) → IsSpaced (shift_text d) (ShiftBy d)
unfolding keyword_of
shift_spaced shifts.Left = spaced_word (codes "shl") (ShiftBy shifts.Left) refl refl
shift_spaced shifts.Right = spaced_word (codes "shr") (ShiftBy shifts.Right) refl refl

pub comparison_spaced : (c : Comparison) → IsSpaced (comparison_text c) (Compare c)
unfolding symbol_of
comparison_spaced comparisons.Equal = one_byte 61 (Compare comparisons.Equal) refl refl refl refl refl refl
comparison_spaced comparisons.NotEqual = two_bytes 33 61 (Compare comparisons.NotEqual) refl refl refl refl refl
comparison_spaced comparisons.Less = one_byte 60 (Compare comparisons.Less) refl refl refl refl refl refl
comparison_spaced comparisons.LessOrEqual = two_bytes 60 61 (Compare comparisons.LessOrEqual) refl refl refl refl refl
comparison_spaced comparisons.Greater = one_byte 62 (Compare comparisons.Greater) refl refl refl refl refl refl
comparison_spaced comparisons.GreaterOrEqual = two_bytes 62 61 (Compare comparisons.GreaterOrEqual) refl refl refl refl refl

-- the keyword of a connective
abbrev pub connective_terminal : Connective → Terminal
connective_terminal connectives.And = Join junctions.And
connective_terminal connectives.Or = Join junctions.Or
connective_terminal connectives.Implies = Imply conditionals.Implies
connective_terminal connectives.Iff = Imply conditionals.Iff

pub connective_spaced : (c : Connective) → IsSpaced (connective_text c) (connective_terminal c)
unfolding keyword_of
connective_spaced connectives.And = spaced_word (codes "and") (Join junctions.And) refl refl
connective_spaced connectives.Or = spaced_word (codes "or") (Join junctions.Or) refl refl
connective_spaced connectives.Implies = spaced_word (codes "implies") (Imply conditionals.Implies) refl refl
connective_spaced connectives.Iff = spaced_word (codes "iff") (Imply conditionals.Iff) refl refl

pub not_spaced : IsSpaced (codes "not") Not
unfolding keyword_of
not_spaced = spaced_word (codes "not") Not refl refl

pub inv_spaced : IsSpaced (codes "inv") Inv
unfolding keyword_of
inv_spaced = spaced_word (codes "inv") Inv refl refl

pub if_spaced : IsSpaced (codes "if") If
unfolding keyword_of
if_spaced = spaced_word (codes "if") If refl refl

pub then_spaced : IsSpaced (codes "then") Then
unfolding keyword_of
then_spaced = spaced_word (codes "then") Then refl refl

pub else_spaced : IsSpaced (codes "else") Else
unfolding keyword_of
else_spaced = spaced_word (codes "else") Else refl refl

pub truth_token : (b : Bool) (rest : List ℕ) → ends_word rest ≡ true → IsToken (truth_text b) rest (Fixed (Truth b))
unfolding keyword_of
truth_token true rest e = keyword_token (codes "true") rest (Truth true) refl refl e
truth_token false rest e = keyword_token (codes "false") rest (Truth false) refl refl e
