-- The text of hint lines: fields and numbers. Lines are those of std's `lines`: they end by a line feed, with one carriage return before it dropped, and the last line feed may be missing.
use Rattle.std.specs.Prelude.{ℕ, ◌==◌, ◌||◌, ◌&&◌, nat_le, ℤ, pos, neg_ℤ, Bool, true, false, Option, Some, None, option_map, List, [], ◌∷◌, if◌then◌else◌, filter}
use Rattle.std.specs.List.{slice_split}
use Rattle.std.specs.Str.{all_ascii_digits}
use Rattle.std.specs.Str.Parse.{digits_value}
use Rattle.rg_words.specs.declared.limits.TheConstants.{MOST_HINT_NUMBER}

-- a space or a tab
abbrev pub is_blank : ℕ → Bool
is_blank b = (b == 32) || (b == 9)

-- some bytes
abbrev pub is_filled : List ℕ → Bool
is_filled [] = false
is_filled (b ∷ bs) = true

-- the fields of a line: the parts between spaces and tabs that are not empty
abbrev pub fields_of : List ℕ → List (List ℕ)
fields_of line = filter is_filled (slice_split is_blank line)

-- a number that may stand in a hint line
abbrev pub in_range : ℕ → Option ℕ
in_range n = if nat_le n MOST_HINT_NUMBER then Some n else None

-- the number in range that a field writes by decimal digits, with any leading zeros
abbrev pub number_in : List ℕ → Option ℕ
number_in field = if is_filled field && all_ascii_digits field then in_range (digits_value 10 field) else None

-- a number that is not 0
abbrev pub positive : Option ℕ → Option ℕ
positive None = None
positive (Some n) = if n == 0 then None else Some n

-- the number with its sign that a field writes: a minus sign stands before a number that is not 0
abbrev pub literal_in : List ℕ → Option ℤ
literal_in [] = None
literal_in (b ∷ bs) =
    if b == 45 then option_map (λ n. neg_ℤ (pos n)) (positive (number_in bs)) else option_map (λ n. pos n) (number_in (b ∷ bs))
