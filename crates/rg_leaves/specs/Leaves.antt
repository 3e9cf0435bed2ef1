-- The leaves of a formula: their groups, and the faults of each; and why a text with these faults is refused.
use Rattle.std.specs.Prelude.{◌≡◌, ℕ, ◌^◌, Bool, false, cond, not, nat_eq, nat_lt, nat_le, List, [], ◌∷◌, slice_index, slice_index_or, Option, Some, None, ◌⊎◌}
use Rattle.std.specs.Option.{option_or, unwrap_or}
use Rattle.std.specs.Str.Parse.{digits_value}
use Rattle.rg_words.specs.declared.limits.TheConstants.{MOST_PLAIN_NUMBER}
use Rattle.rg_words.specs.declared.refusal.Refusal.{Refusal}
use Rattle.rg_words.specs.declared.refusal.SourceFile.{SourceFile}
use Rattle.rg_words.specs.declared.refusal.RefusalNumber.{RefusalNumber}
use Rattle.rg_words.specs.declared.refusal.RefusalNumber.TheVariants.{UnknownName, NumberTooLarge, WidthsDiffer, WidthUnknown, Prime, FixedAssigned}
use Rattle.rg_words.specs.Refusals.{no_memory, refused_at}
use Rattle.rg_words.specs.Layout.{Word, index_of, widths_of, fixed_of}
use Rattle.rg_text.specs.Text.{Leaf, unprimed}
use Rattle.rg_syntax.specs.Written.{Term, number, word, next_word, inverse, binary, shifted, choice}
use Rattle.rg_leaves.specs.declared.group.Group.{Group}
use Rattle.rg_leaves.specs.declared.group.Group.TheVariants.{Width, Unasked, Wordless}

-- a fault: its number, and the line of its token
pub record Fault : Type 0 where
  pub number : RefusalNumber
  pub line : ℕ

-- the number that decimal digits write
abbrev pub number_of : List ℕ → ℕ
number_of digits = digits_value 10 digits

-- the width of the k-th word
abbrev pub width_at : List Word → ℕ → ℕ
width_at words k = slice_index (widths_of words) k

-- the name of the first word, plain or primed, outside the formulas of `(if ..)`
abbrev pub first_name : Term → Option (List ℕ)
first_name (number n) = None
first_name (word x) = Some x.text
first_name (next_word x) = Some (unprimed x.text)
first_name (inverse a) = first_name a
first_name (binary o a b) = option_or (first_name a) (first_name b)
first_name (shifted d a n) = first_name a
first_name (choice f a b) = option_or (first_name a) (first_name b)

-- the group whose first word is at this place among the words, if it is declared
abbrev pub group_at : List Word → Option ℕ → Group
group_at words None = Unasked
group_at words (Some k) = Width (width_at words k)

-- the group whose first word has this name, if it has a word
abbrev pub group_by : List Word → Option (List ℕ) → Group
group_by words None = Wordless
group_by words (Some name) = group_at words (index_of words name)

-- the group of a comparison
unfoldable pub group_of : List Word → Term → Term → Group
group_of words a b = group_by words (option_or (first_name a) (first_name b))

-- what is asked of a group after its first operand: a missing width is reported once
abbrev pub after_first : Group → Group
after_first (Width w) = Width w
after_first Unasked = Unasked
after_first Wordless = Unasked

-- the fault of this number at this line, where the test fails
abbrev pub unless : Bool → RefusalNumber → ℕ → List Fault
unless test fault line = cond test [] (record { number = fault; line = line } ∷ [])

-- the group asks for another width
abbrev pub is_other : Group → ℕ → Bool
is_other (Width w) v = not (nat_eq v w)
is_other Unasked v = false
is_other Wordless v = false

-- the faults of a word at this place among the words: it isn't declared, has another width, or is primed where it mustn't be
abbrev pub word_faults : List Word → Group → Bool → ℕ → Option ℕ → List Fault
word_faults words group barred line None = record { number = UnknownName; line = line } ∷ []
word_faults words group barred line (Some k) =
    cond (is_other group (width_at words k)) (record { number = WidthsDiffer; line = line } ∷ []) (unless (not barred) Prime line)

-- the faults of a number: it is too large for the group, or the first number of a group without a word
abbrev pub number_faults : Group → ℕ → ℕ → List Fault
number_faults (Width w) line n = unless (nat_lt n (2 ^ w)) NumberTooLarge line
number_faults Unasked line n = []
number_faults Wordless line n = record { number = WidthUnknown; line = line } ∷ []

-- the fault of a number that is of no group and no word: it is too large
abbrev pub plain_faults : Leaf → List Fault
plain_faults n = unless (nat_le (number_of n.text) MOST_PLAIN_NUMBER) NumberTooLarge n.line

-- the word at this place is fixed
abbrev pub is_fixed : List Word → ℕ → Bool
is_fixed words k = slice_index_or (fixed_of words) k false

-- the fault of a target: it isn't declared, or no step changes it
abbrev pub target_faults : List Word → Leaf → Option ℕ → List Fault
target_faults words x None = record { number = UnknownName; line = x.line } ∷ []
target_faults words x (Some k) = unless (not (is_fixed words k)) FixedAssigned x.line

-- the place of a declared word, from 0
abbrev pub place_of : List Word → List ℕ → ℕ
place_of words name = unwrap_or (index_of words name) 0

-- the width of a group that has one
abbrev pub width_of : Group → ℕ
width_of (Width w) = w
width_of Unasked = 0
width_of Wordless = 0

-- the first of the faults, at its line of the file
abbrev pub IsFirst : SourceFile → List Fault → Refusal → Type 0
IsFirst file [] refusal = ⊥
IsFirst file (fault ∷ faults) refusal = refusal ≡ refused_at fault.number file fault.line

-- a refusal of a text with these faults: want of memory, or the first fault
pub record IsRefusal (file : SourceFile) (faults : List Fault) (refusal : Refusal) : Type 0 where
  pub cause : (refusal ≡ no_memory) ⊎ IsFirst file faults refusal
