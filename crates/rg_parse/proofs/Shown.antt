-- From the tokens of a text to its meaning.
use Rattle.std.proofs.Common.{◌≡◌, ◌≤◌, ◌+◌, length-append, ℕ, List, [], ◌∷◌, map, length, refl, sym, subst, ap, ◌∙◌, arith}
use Rattle.std.specs.List.{All}
use Rattle.std.proofs.lemmas.List.{length-map}
use Rattle.std.proofs.lemmas.List.Elements.{All-head, All-tail, All-cons, All-append}
use Rattle.std.specs.Prelude.{true, false, Bool}
use Rattle.rg_words.specs.Names.{IsName}
use Rattle.rg_text.specs.declared.token.Token.{Token}
use Rattle.rg_text.specs.declared.kind.Kind.{Kind}
use Rattle.rg_text.specs.declared.kind.Kind.TheVariants.{Name, Primed, Number, Fixed}
use Rattle.rg_text.specs.declared.kind.Terminal.TheVariants.{Colon, If, Section}
use Rattle.rg_text.specs.declared.kind.Keyword.TheVariants.{Skip}
use Rattle.rg_text.specs.Text.{Leaf, leaf_of, text_of}
use Rattle.rg_text.specs.Tokenization.{IsTokenOf}
use Rattle.rg_syntax.specs.declared.written.Declaration.{Declaration}
use Rattle.rg_syntax.specs.Grammar.{Lexeme, fixed, name, number, lexeme_as, lexeme_of, WordsSpelling, one, more, ShowSpelling, marked, declaration, words, show}
use Rattle.rg_syntax.specs.Written.{Claim, DeclaredWord, ShownClaim, declared_word}
use Rattle.rg_build.specs.Frames.{whole, declaring, finished, finished_show}
use Rattle.rg_syntax.specs.Texts.{claim_of, declared_words}
use Rattle.rg_build.specs.Inner.Building.{steps}
use Rattle.rg_build.proofs.Builds.{builds_formula, builds_show}
use Rattle.rg_syntax.specs.OneReading.{OneFormula, OneShow}
use Rattle.rg_syntax.specs.Limits.{word_count}
use Rattle.rg_words.specs.declared.limits.TheConstants.{MOST_WORDS}

same_formula : (a b : Claim) → finished a ∷ [] ≡ finished b ∷ [] → a ≡ b
same_formula a b h = cc

abbrev a_show : List DeclaredWord → Claim → ShownClaim
a_show ws f = record { words = ws; formula = f }

same_show : (ws us : List DeclaredWord) (a b : Claim) → finished_show ws a ∷ [] ≡ finished_show us b ∷ [] → a_show ws a ≡ a_show us b
same_show ws us a b h = cc

-- the same tokens say one thing
pub one_formula : OneFormula
one_formula f g e = same_formula (claim_of f) (claim_of g) (sym (builds_formula f) ∙ ap (steps (whole ∷ [])) e ∙ builds_formula g)

pub one_show : OneShow
one_show s t e =
    same_show (declared_words s.words) (declared_words t.words) (claim_of s.formula) (claim_of t.formula) (sym (builds_show s) ∙ ap (steps (declaring [] false ∷ [])) e ∙ builds_show t)

-- a name's text is a name
abbrev pub NameOk : Lexeme → Type 0
NameOk (name leaf) = IsName leaf.text
NameOk _ = Unit {0}

abbrev pub NamesOk : List Lexeme → Type 0
NamesOk [] = Unit {0}
NamesOk (l ∷ ls) = NameOk l × NamesOk ls

lexeme_ok : (k : Kind) (leaf : Leaf) → (k ≡ Name → IsName leaf.text) → NameOk (lexeme_as k leaf)
lexeme_ok Name leaf h = h refl
lexeme_ok Primed leaf h = tt
lexeme_ok Number leaf h = tt
lexeme_ok (Fixed If) leaf h = tt
lexeme_ok (Fixed (Section Skip)) leaf h = tt
lexeme_ok (Fixed _) leaf h = tt

pub names_ok : (src : List ℕ) (ts : List Token) → All (IsTokenOf src) ts → NamesOk (map (lexeme_of src) ts)
names_ok src [] h = tt
names_ok src (t ∷ ts) h =
    let here = All-head (IsTokenOf src) t ts h in
    (lexeme_ok t.kind (leaf_of src t) here.name, names_ok src ts (All-tail (IsTokenOf src) t ts h))

-- the name of a declaration, and what follows it
declared_ok : (w : DeclaredWord) (rest : List Lexeme) → NamesOk (declaration w rest) → IsName w.name.text × NamesOk rest
declared_ok w rest h = by_mark w.fixed h
  where
    by_mark : (b : Bool) → NamesOk (marked b (name w.name ∷ fixed Colon ∷ number w.width ∷ rest)) → IsName w.name.text × NamesOk rest
    by_mark true h = (h.1.0, h.1.1.1.1)
    by_mark false h = (h.0, h.1.1.1)

pub words_ok : (ws : WordsSpelling) (rest : List Lexeme) → NamesOk (words ws rest) → All (λ w. IsName w.name.text) (declared_words ws) × NamesOk rest
words_ok (one w) rest h =
    let here = declared_ok w rest h.1 in
    (All-cons (λ w. IsName w.name.text) w [] here.0 (λ k d less. absurd (omega arith)), here.1)
words_ok (more ws w) rest h =
    let front = words_ok ws (declaration w rest) h in
    let here = declared_ok w rest front.1 in
    (All-append (λ w. IsName w.name.text) (declared_words ws) (w ∷ []) front.0 (All-cons (λ w. IsName w.name.text) w [] here.0 (λ k d less. absurd (omega arith))), here.1)

-- so the tokens of declarations that say these words have names
pub tokens_named : (src : List ℕ) (ds : List Declaration) → All (λ w. IsName w.name.text) (map (declared_word src) ds) → All (λ d. IsName (text_of src d.name)) ds
tokens_named src [] h = λ k d less. absurd (omega arith)
tokens_named src (d ∷ ds) h =
    All-cons (λ d. IsName (text_of src d.name)) d ds (All-head (λ w. IsName w.name.text) (declared_word src d) (map (declared_word src) ds) h)
    (tokens_named src ds (All-tail (λ w. IsName w.name.text) (declared_word src d) (map (declared_word src) ds) h))

pub declarations_named : (src : List ℕ) (ts : List Token) (ds : List Declaration) (s : ShowSpelling) → All (IsTokenOf src) ts → map (lexeme_of src) ts ≡ show s [] → map (declared_word src) ds ≡ declared_words s.words → All (λ d. IsName (text_of src d.name)) ds
declarations_named src ts ds s each spelled e =
    let ok = subst NamesOk spelled (names_ok src ts each) in
    let named = (words_ok s.words _ ok).0 in
    tokens_named src ds (subst (λ ws. All (λ w. IsName w.name.text) ws) (sym e) named)

pub length-declared : (ws : WordsSpelling) → length (declared_words ws) ≡ word_count ws
length-declared (one w) = refl
length-declared (more ws w) = length-append (declared_words ws) (w ∷ []) ∙ ap (λ n. n + 1) (length-declared ws)

pub declarations_count : (src : List ℕ) (ds : List Declaration) (s : ShowSpelling) → word_count s.words ≤ MOST_WORDS → map (declared_word src) ds ≡ declared_words s.words → length ds ≤ MOST_WORDS
declarations_count src ds s most e =
    let size = sym (length-map ds (declared_word src)) ∙ ap length e ∙ length-declared s.words in
    subst (λ n. n ≤ MOST_WORDS) (sym size) most
