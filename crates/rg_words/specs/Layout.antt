-- Declared words, in the order of declaration.
use Rattle.std.specs.Prelude.{ℕ, ◌≤◌, ◌≢◌, Bool, not, ◌&&◌, nat_le, if◌then◌else◌, List, length, map, Option, Some, None, is_some, position, All, String, string_bytes}
use Rattle.std.specs.Global.{Global}
use Rattle.std.specs.List.{AllPairs}
use Rattle.std.specs.Str.{bytes_eq}
use Rattle.rg_words.specs.declared.layout.Declared.{Declared}
use Rattle.rg_words.specs.declared.limits.TheConstants.{MOST_WORDS, MOST_WIDTH}
use Rattle.rg_words.specs.declared.refusal.RefusalNumber.{RefusalNumber}
use Rattle.rg_words.specs.declared.refusal.RefusalNumber.TheVariants.{NameTwice, Width, Limit}
use Rattle.rg_words.specs.Names.{IsName}

-- a declared word: the bytes of its name, its width in bits, and whether no step changes it
pub record Word : Type 0 where
  pub name : List ℕ
  pub width : ℕ
  pub fixed : Bool

-- the entries of the code, without where they lie in memory
abbrev pub words_of_entries : List (String Global × Declared) → List Word
words_of_entries entries = map (λ e. record { name = string_bytes e.0; width = e.1.width; fixed = e.1.fixed }) entries

-- the place of the word of this name, from 0
abbrev pub index_of : List Word → List ℕ → Option ℕ
index_of words name = position (λ w. bytes_eq name w.name) words

-- the name of each word
abbrev pub names_of : List Word → List (List ℕ)
names_of words = map (λ w. w.name) words

-- the width of each word
abbrev pub widths_of : List Word → List ℕ
widths_of words = map (λ w. w.width) words

-- for each word whether it is fixed
abbrev pub fixed_of : List Word → List Bool
fixed_of words = map (λ w. w.fixed) words

-- from 1 bit to 64
abbrev pub IsWidth : ℕ → Type 0
IsWidth width = (1 ≤ width) × (width ≤ MOST_WIDTH)

-- what the words of a layout are: at most 64, of such widths, each with a name of its own
pub record IsLayout (words : List Word) : Type 0 where
  pub count : length words ≤ MOST_WORDS
  pub widths : All (λ w. IsWidth w.width) words
  pub names : All (λ w. IsName w.name) words
  pub distinct : AllPairs (λ v w. v.name ≢ w.name) words

-- why a word can't be declared after these words, if it can't: the first of these three that holds
abbrev pub declaration_fault : List Word → List ℕ → ℕ → Option RefusalNumber
declaration_fault words name width =
    if is_some (index_of words name) then Some NameTwice
    else if not (nat_le 1 width && nat_le width MOST_WIDTH) then Some Width
    else if nat_le MOST_WORDS (length words) then Some Limit
    else None
