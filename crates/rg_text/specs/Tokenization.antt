-- How a source is cut into tokens: between two of them a gap of white space and comments, and at each place the longest token.
use Rattle.std.specs.Prelude.{◌≡◌, ℕ, ◌+◌, ◌-◌, ◌<◌, ◌≤◌, ◌==◌, ◌⊎◌, Bool, ◌||◌, cond, List, [], ◌∷◌, length, take, drop, count_by, Some, None}
use Rattle.rg_words.specs.declared.limits.TheConstants.{MOST_TEXT_BYTES}
use Rattle.rg_words.specs.declared.refusal.Refusal.{Refusal}
use Rattle.rg_words.specs.declared.refusal.RefusalNumber.TheVariants.{BadByte, Limit}
use Rattle.rg_words.specs.declared.refusal.SourceFile.{SourceFile}
use Rattle.rg_words.specs.Refusals.{no_memory, refused_at}
use Rattle.rg_words.specs.Names.{IsName}
use Rattle.rg_text.specs.declared.kind.Kind.{Kind}
use Rattle.rg_text.specs.declared.kind.Kind.TheVariants.{Name, Primed}
use Rattle.rg_text.specs.declared.token.Token.{Token}
use Rattle.rg_text.specs.Spelling.{kind_of_text}
use Rattle.rg_text.specs.Text.{text_of, unprimed}

-- space, tab, CR or LF
abbrev pub is_white_space : ℕ → Bool
is_white_space b = (b == 32) || ((b == 9) || ((b == 13) || (b == 10)))

-- how many bytes at the front are white space and comments; a comment goes from `#` to the next LF, or to the end
abbrev mutual
  pub gap_len : List ℕ → ℕ
  gap_len [] = 0
  gap_len (b ∷ bs) = cond (is_white_space b) (1 + gap_len bs) (cond (b == 35) (1 + comment_len bs) 0)

  pub comment_len : List ℕ → ℕ
  comment_len [] = 0
  comment_len (b ∷ bs) = cond (b == 10) (1 + gap_len bs) (1 + comment_len bs)

-- where the gap at a place ends
abbrev pub gap_end : List ℕ → ℕ → ℕ
gap_end source place = place + gap_len (drop place source)

-- the line of a place, from 1: lines end at LF
abbrev pub line_at : List ℕ → ℕ → ℕ
line_at source place = 1 + count_by (λ b. b == 10) (take place source)

-- the first n bytes are a token of this kind, and no more bytes are a token
pub record IsLongest (bytes : List ℕ) (n : ℕ) (kind : Kind) : Type 0 where
  pub some : 0 < n
  pub within : n ≤ length bytes
  pub is : kind_of_text (take n bytes) ≡ Some kind
  pub longest : (m : ℕ) → n < m → m ≤ length bytes → kind_of_text (take m bytes) ≡ None

-- no bytes at the front are a token
abbrev pub BeginsNoToken : List ℕ → Type 0
BeginsNoToken bytes = (m : ℕ) → m ≤ length bytes → kind_of_text (take m bytes) ≡ None

-- the token after the gap at a place: the longest one, with its line
pub record IsNextToken (source : List ℕ) (place : ℕ) (t : Token) : Type 0 where
  pub start : t.start ≡ gap_end source place
  pub longest : IsLongest (drop t.start source) (t.end - t.start) t.kind
  pub line : t.line ≡ line_at source t.start

-- these tokens, each the next one from the end of the one before, lead from one place to another
abbrev pub AreTokens : List ℕ → ℕ → List Token → ℕ → Type 0
AreTokens source from [] to = from ≡ to
AreTokens source from (t ∷ ts) to = IsNextToken source from t × AreTokens source t.end ts to

-- these are the tokens of the source: after the last is nothing but a gap
abbrev pub IsTokenized : List ℕ → List Token → Type 0
IsTokenized source ts = (to : ℕ) × AreTokens source 0 ts to × (gap_end source to ≡ length source)

-- after some tokens and a gap stands a byte that begins no token
pub record IsBadByte (source : List ℕ) (place : ℕ) : Type 0 where
  pub before : List Token
  pub to : ℕ
  pub tokens : AreTokens source 0 before to
  pub gap : gap_end source to ≡ place
  pub byte : place < length source
  pub bad : BeginsNoToken (drop place source)

-- what each token says of itself: its span, its kind and its line; a name may be declared, and without its prime a primed one
pub record IsTokenOf (source : List ℕ) (t : Token) : Type 0 where
  pub some : t.start < t.end
  pub within : t.end ≤ length source
  pub kind : kind_of_text (text_of source t) ≡ Some t.kind
  pub line : t.line ≡ line_at source t.start
  pub name : t.kind ≡ Name → IsName (text_of source t)
  pub primed : t.kind ≡ Primed → IsName (unprimed (text_of source t))

-- why a source is refused: its size, its bad byte, or want of memory
abbrev pub IsReadRefusal : SourceFile → List ℕ → Refusal → Type 0
IsReadRefusal file source e =
    ((MOST_TEXT_BYTES < length source) × (e ≡ refused_at Limit file 1))
    ⊎ (((length source ≤ MOST_TEXT_BYTES) × (place : ℕ) × IsBadByte source place × (e ≡ refused_at BadByte file (line_at source place)))
    ⊎ (e ≡ no_memory))
