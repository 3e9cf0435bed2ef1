-- A text cut into tokens, one after another.
use Rattle.std.proofs.Common.{◌≡◌, ℕ, suc, ◌+◌, ◌-◌, ◌≤◌, cond, eqb, List, [], ◌∷◌, ◌++◌, map, length, take, drop, refl, sym, ap, subst, ◌∙◌, arith, count_by, length-drop}
use Rattle.std.proofs.Math.Seq.{take-append_seam, drop-append_seam}
use Rattle.std.proofs.lemmas.List.{drop-drop}
use Rattle.std.proofs.lemmas.List.Sums.{sum_by-cons}
use Rattle.rg_text.specs.declared.token.Token.{Token}
use Rattle.rg_text.specs.declared.kind.Kind.{Kind}
use Rattle.rg_text.specs.Text.{text_of}
use Rattle.rg_text.specs.Tokenization.{gap_len, gap_end, line_at, IsLongest, AreTokens, IsTokenized}
use Rattle.rg_text.proofs.LineFeeds.{line_on, line_after}
use Rattle.rg_syntax.specs.Grammar.{Lexeme, lexeme_as, lexeme_of}
use Rattle.rg_parse.proofs.PrintedStands.{printed_leaf}

-- after a gap without LF stands the longest token, a lexeme of the first line, and then the rest
pub record IsFirstToken (s : List ℕ) (l : Lexeme) (rest : List ℕ) : Type 0 where
  pub text : List ℕ
  pub kind : Kind
  pub gap : count_by (λ b. eqb b 10) (take (gap_len s) s) ≡ 0
  pub is : drop (gap_len s) s ≡ text ++ rest
  pub longest : IsLongest (text ++ rest) (length text) kind
  pub lexeme : l ≡ lexeme_as kind (printed_leaf text)

-- a text of one line is cut into these lexemes
abbrev pub Cut : List ℕ → List Lexeme → Type 0
Cut s [] = gap_len s ≡ length s
Cut s (l ∷ ls) = (rest : List ℕ) × IsFirstToken s l rest × Cut rest ls

-- from this place on the tokens are these lexemes
record ReadFrom (source : List ℕ) (place : ℕ) (ls : List Lexeme) : Type 0 where
  tokens : List Token
  to : ℕ
  are : AreTokens source place tokens to
  ends : gap_end source to ≡ length source
  lexemes : map (lexeme_of source) tokens ≡ ls

module _ (source : List ℕ) (place : ℕ) (l : Lexeme) (rest : List ℕ) (f : IsFirstToken (drop place source) l rest) where
  -- where the gap at the place ends, and where the token after it does
  abbrev start : ℕ
  start = gap_end source place

  abbrev end : ℕ
  end = start + length f.text

  at_start : drop start source ≡ f.text ++ rest
  at_start = sym (drop-drop (gap_len (drop place source)) place source) ∙ f.is

  at_end : drop end source ≡ rest
  at_end = sym (drop-drop (length f.text) start source) ∙ ap (drop (length f.text)) at_start ∙ drop-append_seam f.text rest

  longest_there : IsLongest (drop start source) (length f.text) f.kind
  longest_there = subst (λ s. IsLongest s (length f.text) f.kind) (sym at_start) f.longest

  end_within : end ≤ length source
  end_within =
      let some = longest_there.some in
      let room = longest_there.within in
      omega (arith, length-drop start source)

  first_line : line_at source place ≡ 1 → line_at source start ≡ 1
  first_line line =
      let on : line_at source start ≡ line_at source place + count_by (λ b. eqb b 10) (take (gap_len (drop place source)) (drop place source)) = line_on source place (gap_len (drop place source)) in
      let none = f.gap in
      omega (arith, on, none, line)

  still_first_line : line_at source place ≡ 1 → line_at source end ≡ 1
  still_first_line line = line_after source start (length f.text) f.kind longest_there.is ∙ first_line line

  -- the first token, and the others
  one_and_more : (ls : List Lexeme) → line_at source place ≡ 1 → ReadFrom source end ls → ReadFrom source place (l ∷ ls)
  one_and_more ls line more = record {
    tokens = t ∷ more.tokens;
    to = more.to;
    are = (record { start = refl; longest = rw long longest_there; line = sym (first_line line) }, more.are);
    ends = more.ends;
    lexemes = ap (λ x. x ∷ map (lexeme_of source) more.tokens) here ∙ ap (λ xs. l ∷ xs) more.lexemes;
  }
    where
      t : Token
      t = record { kind = f.kind; start = start; end = end; line = 1 }

      long : end - start ≡ length f.text
      long = omega arith

      text : text_of source t ≡ f.text
      text = ap (λ n. take n (drop start source)) long ∙ ap (take (length f.text)) at_start ∙ take-append_seam f.text rest

      here : lexeme_of source t ≡ l
      here = ap (λ text. lexeme_as f.kind (printed_leaf text)) text ∙ sym f.lexeme

read_from : (source : List ℕ) (ls : List Lexeme) (place : ℕ) → place ≤ length source → line_at source place ≡ 1 → Cut (drop place source) ls → ReadFrom source place ls
read_from source [] place within line cut = record {
  tokens = [];
  to = place;
  are = refl;
  ends = omega (arith, cut, length-drop place source);
  lexemes = refl;
}
read_from source (l ∷ ls) place within line cut =
    let rest = cut.0 in
    let f = cut.1 in
    one_and_more source place l rest f ls line
    (read_from source ls (end source place l rest f) (end_within source place l rest f) (still_first_line source place l rest f line) (subst (λ s. Cut s ls) (sym (at_end source place l rest f)) cut.2))

-- a text that is cut into lexemes has tokens that are these
pub cut_tokens : (source : List ℕ) (ls : List Lexeme) → Cut source ls → (tokens : List Token) × IsTokenized source tokens × (map (lexeme_of source) tokens ≡ ls)
cut_tokens source ls cut =
    let r = read_from source ls 0 (omega arith) refl cut in
    (r.tokens, (r.to, r.are, r.ends), r.lexemes)

one_more : (n : ℕ) → 1 + n ≡ suc n
one_more n = omega arith

first_after_space : (s : List ℕ) (l : Lexeme) (rest : List ℕ) → IsFirstToken s l rest → IsFirstToken (32 ∷ s) l rest
first_after_space s l rest f = record {
  text = f.text;
  kind = f.kind;
  gap = ap (λ n. count_by (λ b. eqb b 10) (take n (32 ∷ s))) (one_more (gap_len s)) ∙ sum_by-cons (λ b. cond (eqb b 10) 1 0) 32 (take (gap_len s) s) ∙ ap (λ n. 0 + n) f.gap;
  is = ap (λ n. drop n (32 ∷ s)) (one_more (gap_len s)) ∙ f.is;
  longest = f.longest;
  lexeme = f.lexeme;
}

-- a space before the tokens
pub cut_space : (ls : List Lexeme) (s : List ℕ) → Cut s ls → Cut (32 ∷ s) ls
cut_space [] s h = omega (arith, h)
cut_space (l ∷ ls) s h = (h.0, first_after_space s l h.0 h.1, h.2)

-- a text is a token of this kind before what follows it, with no gap before it
pub record IsToken (text rest : List ℕ) (kind : Kind) : Type 0 where
  pub longest : IsLongest (text ++ rest) (length text) kind
  pub gapless : gap_len (text ++ rest) ≡ 0

-- a token before the others
pub cut_token : (text rest : List ℕ) (kind : Kind) (ls : List Lexeme) → IsToken text rest kind → Cut rest ls → Cut (text ++ rest) (lexeme_as kind (printed_leaf text) ∷ ls)
cut_token text rest kind ls t h = (
  rest,
  record {
    text = text;
    kind = kind;
    gap = rw t.gapless refl;
    is = rw t.gapless refl;
    longest = t.longest;
    lexeme = refl;
  },
  h,
)
