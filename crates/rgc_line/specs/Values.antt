-- What the words of a command have at its files and options.
use Rattle.std.specs.Prelude.{◌≡◌, ◌⊎◌, ◌↔◌, ℕ, Bool, true, Option, Some, None, Ok, List, [], ◌∷◌, length, codes, slice_get}
use Rattle.std.specs.Str.Parse.{ParsesUnsigned}
use Rattle.std.specs.Borrow.{Bor}
use Rattle.clap.specs.Words.{Row, Rule, Text, all_of, first_of, one_of}
use Rattle.rgc_line.specs.declared.command.Outlines.{Outlines}

-- the words have something at the id
abbrev pub IsThere : List Row → Text → Type 0
IsThere rows id = (text : Text) × (first_of id rows ≡ Some text)

-- the words have nothing at the id
abbrev pub HasNo : List Row → Text → Type 0
HasNo rows id = first_of id rows ≡ None

-- what the words have at a file or an option of a command: the name of a file or a word, one of several files, a number, that it is there or
-- not, or nothing
pub data Value : Type 0 where
  file : Bor Text → Value
  file_of : Outlines → Value
  number : ℕ → Value
  flag : Bool → Value
  absent : Value

-- what may be left out
abbrev pub optional : {A : Type 0} → (A → Value) → Option A → Value
optional make None = absent
optional make (Some it) = make it

-- the words have this value at the id: this name; at its place, this one of several names; this number in decimal digits; the flag or not; nothing
abbrev pub HasValue : List Row → Text → Value → Type 0
HasValue rows id (file name) = first_of id rows ≡ Some name.now
HasValue rows id (file_of one) =
    (names : List Text) × (all_of id rows ≡ Some names) × (length names ≡ one.count) × (slice_get names one.place ≡ Some one.outline.now)
HasValue rows id (number n) = (text : Text) × (one_of id rows ≡ Some text) × ParsesUnsigned {E = Unit {0}} 64 10 text (Ok n)
HasValue rows id (flag is_given) = (is_given ≡ true) ↔ (first_of id rows ≡ Some (codes "true"))
HasValue rows id absent = HasNo rows id

-- the words have these files at the id, in their order, or nothing
abbrev pub HasFiles : List Row → Text → List Text → Type 0
HasFiles rows id files = (all_of id rows ≡ Some files) ⊎ ((all_of id rows ≡ None) × (files ≡ []))

-- the words have these values at the first of the arguments, one at each
abbrev pub HasValues : List Row → List Rule → List Value → Type 0
HasValues rows rules [] = Unit {0}
HasValues rows [] (value ∷ values) = ⊥
HasValues rows (rule ∷ rules) (value ∷ values) = HasValue rows rule.id value × HasValues rows rules values
