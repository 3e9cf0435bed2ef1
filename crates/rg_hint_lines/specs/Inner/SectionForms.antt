-- Sections as the code holds them, and parts of a text.
use Rattle.std.specs.Prelude.{◌≡◌, ◌==◌, ◌⊎◌, ℕ, ◌+◌, ◌<◌, ◌≤◌, false, Option, Some, None, Result, Err, List, [], ◌++◌, length, All}
use Rattle.std.specs.Str.Lines.{lines}
use Rattle.rg_words.specs.declared.refusal.Refusal.{Refusal}
use Rattle.rg_hint_lines.specs.declared.sections.SectionBytes.{SectionBytes}
use Rattle.rg_hint_lines.specs.Text.{fields_of}
use Rattle.rg_hint_lines.specs.LineEnds.{EndsLine, IsFrontLine}
use Rattle.rg_hint_lines.specs.Sections.{SectionText, is_head, headed_lines, after_front, sections_under}

-- a number that stands for another: it is the same, or both are greater than the most that counts
abbrev pub IsUpTo : ℕ → ℕ → Option ℕ → Type 0
IsUpTo most n None = ⊥
IsUpTo most n (Some m) = (n ≡ m) ⊎ ((most < n) × (most < m))

-- no byte is an s
abbrev pub HasNoS : List ℕ → Type 0
HasNoS bytes = All (λ b. (b == 115) ≡ false) bytes

-- a line that is not meant as a head
abbrev pub IsPlain : List ℕ → Type 0
IsPlain line = is_head (fields_of line) ≡ false

-- a text is one line that is no head, with its end, and the rest
pub record IsPlainLine (text rest : List ℕ) : Type 0 where
  pub line : List ℕ
  pub plain : IsPlain line
  pub front : IsFrontLine text line rest

-- no lines stand before the first head
abbrev pub BeginsWithHead : List ℕ → Type 0
BeginsWithHead text = (number : ℕ) → (headed_lines (lines text) number).0 ≡ []

-- a text is so many lines, with their ends, and the rest
pub record AreFrontLines (text front rest : List ℕ) (count : ℕ) : Type 0 where
  pub is : text ≡ front ++ rest
  pub ends : (rest ≡ []) ⊎ EndsLine front
  pub lines_are : lines text ≡ lines front ++ lines rest
  pub count_is : count ≡ length (lines front)

-- a text begins with these lines, none of which is a head, and goes on with the rest
pub record ArePlainLines (text front rest : List ℕ) (count : ℕ) : Type 0 where
  pub fronts : AreFrontLines text front rest count
  pub plain : All IsPlain (lines front)

-- these are the lines of a text before its first head, so many
pub record AreLinesBeforeHead (text front : List ℕ) (count : ℕ) : Type 0 where
  pub rest : List ℕ
  pub are : ArePlainLines text front rest count
  pub begins : BeginsWithHead rest

-- lines before the first head, with no fault
abbrev pub IsFront : List ℕ → Type 0
IsFront front = (sections : Result (List SectionText) Refusal) → after_front 1 (lines front) sections ≡ sections

-- lines before the first head, and the fault of the first of them that has one
abbrev pub IsFaultyFront : List ℕ → Refusal → Type 0
IsFaultyFront front r = (sections : Result (List SectionText) Refusal) → after_front 1 (lines front) sections ≡ Err r

-- the conditions of sections count from 1
abbrev pub AreNamed : List SectionBytes → Type 0
AreNamed sections = All (λ s. 0 < s.condition) sections

-- what the heads of a text give, whose first line has this number and is a head
abbrev pub sections_after : ℕ → ℕ → List ℕ → Result (List SectionText) Refusal
sections_after count number text = sections_under count 0 (headed_lines (lines text) number).1

-- the numbers of the lines of sections keep a bound
abbrev pub HaveRoom : ℕ → List SectionBytes → Type 0
HaveRoom bound sections = All (λ s. s.first_line + length s.bytes.now ≤ bound) sections
