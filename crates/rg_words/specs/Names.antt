-- Names of words and of parts, and the words that are kept for the language.
use Rattle.std.specs.Prelude.{ℕ, Bool, false, not, ◌&&◌, ◌||◌, ◌==◌, List, [], ◌∷◌, codes, IsTrue}
use Rattle.std.specs.List.{list_any, list_all}
use Rattle.std.specs.Char.{is_ascii_alphabetic, is_ascii_alphanumeric}
use Rattle.std.specs.Str.{bytes_eq}

-- a byte that a name may begin with: an ASCII letter or `_`
abbrev pub is_word_start : ℕ → Bool
is_word_start b = is_ascii_alphabetic b || b == 95

-- a byte that a name may go on with: an ASCII letter, a digit or `_`
abbrev pub is_word_byte : ℕ → Bool
is_word_byte b = is_ascii_alphanumeric b || b == 95

-- the words that are kept for the language
unfoldable pub keywords : List (List ℕ)
keywords =
    codes "words" ∷ codes "fixed" ∷ codes "show"
    ∷ codes "pre" ∷ codes "rely" ∷ codes "guar" ∷ codes "post"
    ∷ codes "part" ∷ codes "begin" ∷ codes "end"
    ∷ codes "skip" ∷ codes "await" ∷ codes "do" ∷ codes "if" ∷ codes "then" ∷ codes "else" ∷ codes "while"
    ∷ codes "not" ∷ codes "and" ∷ codes "or" ∷ codes "implies" ∷ codes "iff" ∷ codes "true" ∷ codes "false"
    ∷ codes "inv" ∷ codes "band" ∷ codes "bor" ∷ codes "bxor" ∷ codes "shl" ∷ codes "shr"
    ∷ codes "line" ∷ codes "from" ∷ codes "basic" ∷ codes "atomic" ∷ codes "seq" ∷ codes "loop" ∷ codes "conseq"
    ∷ codes "at" ∷ []

-- the text is one of them
unfoldable pub is_keyword : List ℕ → Bool
is_keyword text = list_any (λ k. bytes_eq text k) keywords

-- a letter or `_`, then letters, digits and `_`
abbrev pub is_word : List ℕ → Bool
is_word [] = false
is_word (b ∷ bs) = is_word_start b && list_all is_word_byte bs

-- what a word or a part may be called: such a text, and no keyword
unfoldable pub is_name : List ℕ → Bool
is_name text = is_word text && not (is_keyword text)

-- the text is a name
abbrev pub IsName : List ℕ → Type 0
IsName text = IsTrue (is_name text)
