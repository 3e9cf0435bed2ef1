-- Which texts are tokens, and of which kind.
use Rattle.std.specs.Prelude.{ℕ, ◌-◌, ◌==◌, Bool, true, false, ◌&&◌, if◌then◌else◌, List, [], ◌∷◌, length, take, slice_index, Option, Some, None, codes}
use Rattle.std.specs.Char.{is_ascii_digit}
use Rattle.std.specs.List.{list_all}
use Rattle.std.specs.Str.{bytes_eq}
use Rattle.rg_words.specs.Names.{is_name}
use Rattle.rg_words.specs.declared.operators.Comparison.TheVariants.{Equal, NotEqual, Less, LessOrEqual, Greater, GreaterOrEqual}
use Rattle.rg_words.specs.declared.operators.Operator.TheVariants.{Add, Subtract, BitAnd, BitOr, BitXor}
use Rattle.rg_words.specs.declared.operators.Shift.TheVariants.{Left, Right}
use Rattle.rg_text.specs.declared.kind.Kind.{Kind}
use Rattle.rg_text.specs.declared.kind.Kind.TheVariants.{Name, Primed, Number, Fixed}
use Rattle.rg_text.specs.declared.kind.Terminal.{Terminal}
use Rattle.rg_text.specs.declared.kind.Terminal.TheVariants.{Open, Close, Colon, Semicolon, Assign, Compare, Operate, ShiftBy, Join, Imply, Truth, Not, Inv, If, Then, Else, Words, Show, Section}
use Rattle.rg_text.specs.declared.kind.Junction.TheVariants.{And, Or}
use Rattle.rg_text.specs.declared.kind.Conditional.TheVariants.{Implies, Iff}
use Rattle.rg_text.specs.declared.kind.Keyword.{Keyword}
use Rattle.rg_text.specs.declared.kind.Keyword.TheVariants as keyword

-- the keywords of formulas, and of the heads of a text
abbrev pub formula_keywords : List (List ℕ × Terminal)
formula_keywords =
    (codes "words", Words)
    ∷ (codes "show", Show)
    ∷ (codes "if", If)
    ∷ (codes "then", Then)
    ∷ (codes "else", Else)
    ∷ (codes "not", Not)
    ∷ (codes "and", Join And)
    ∷ (codes "or", Join Or)
    ∷ (codes "implies", Imply Implies)
    ∷ (codes "iff", Imply Iff)
    ∷ (codes "true", Truth true)
    ∷ (codes "false", Truth false)
    ∷ (codes "inv", Inv)
    ∷ (codes "band", Operate BitAnd)
    ∷ (codes "bor", Operate BitOr)
    ∷ (codes "bxor", Operate BitXor)
    ∷ (codes "shl", ShiftBy Left)
    ∷ (codes "shr", ShiftBy Right)
    ∷ []

-- the other keywords
abbrev pub section_keywords : List (List ℕ × Keyword)
section_keywords =
    (codes "fixed", keyword.Fixed)
    ∷ (codes "pre", keyword.Pre)
    ∷ (codes "rely", keyword.Rely)
    ∷ (codes "guar", keyword.Guar)
    ∷ (codes "post", keyword.Post)
    ∷ (codes "part", keyword.Part)
    ∷ (codes "begin", keyword.Begin)
    ∷ (codes "end", keyword.End)
    ∷ (codes "skip", keyword.Skip)
    ∷ (codes "await", keyword.Await)
    ∷ (codes "do", keyword.Do)
    ∷ (codes "while", keyword.While)
    ∷ (codes "line", keyword.Line)
    ∷ (codes "from", keyword.From)
    ∷ (codes "basic", keyword.Basic)
    ∷ (codes "atomic", keyword.Atomic)
    ∷ (codes "seq", keyword.Seq)
    ∷ (codes "loop", keyword.Loop)
    ∷ (codes "conseq", keyword.Conseq)
    ∷ (codes "at", keyword.At)
    ∷ []

-- the symbols, each with what it means
abbrev pub symbols : List (List ℕ × Terminal)
symbols =
    (codes "(", Open)
    ∷ (codes ")", Close)
    ∷ (codes ":", Colon)
    ∷ (codes ";", Semicolon)
    ∷ (codes ":=", Assign)
    ∷ (codes "=", Compare Equal)
    ∷ (codes "!=", Compare NotEqual)
    ∷ (codes "<", Compare Less)
    ∷ (codes "<=", Compare LessOrEqual)
    ∷ (codes ">", Compare Greater)
    ∷ (codes ">=", Compare GreaterOrEqual)
    ∷ (codes "+", Operate Add)
    ∷ (codes "-", Operate Subtract)
    ∷ []

-- what stands beside this text in a table
abbrev pub looked_up : {X : Type 0} → List (List ℕ × X) → List ℕ → Option X
looked_up [] text = None
looked_up (row ∷ rows) text = if bytes_eq text row.0 then Some row.1 else looked_up rows text

-- a keyword of formulas, or else another one
abbrev pub either_keyword : Option Terminal → Option Keyword → Option Terminal
either_keyword (Some t) other = Some t
either_keyword None (Some k) = Some (Section k)
either_keyword None None = None

-- the keyword that the text is
unfoldable pub keyword_of : List ℕ → Option Terminal
keyword_of text = either_keyword (looked_up formula_keywords text) (looked_up section_keywords text)

-- the symbol that the text is
unfoldable pub symbol_of : List ℕ → Option Terminal
symbol_of text = looked_up symbols text

-- a name with a prime directly after it
abbrev pub is_primed : List ℕ → Bool
is_primed text = is_name (take (length text - 1) text) && slice_index text (length text - 1) == 39

-- one or more decimal digits
abbrev pub is_number : List ℕ → Bool
is_number [] = false
is_number (b ∷ bs) = list_all is_ascii_digit (b ∷ bs)

-- a keyword, or else a symbol
abbrev pub fixed_kind : Option Terminal → Option Terminal → Option Kind
fixed_kind (Some t) other = Some (Fixed t)
fixed_kind None (Some t) = Some (Fixed t)
fixed_kind None None = None

-- the kind of token that the whole text is, if it is one
unfoldable pub kind_of_text : List ℕ → Option Kind
kind_of_text text =
    if is_name text then Some Name
    else if is_primed text then Some Primed
    else if is_number text then Some Number
    else fixed_kind (keyword_of text) (symbol_of text)
