-- Words that are an array in C: neighbours of one width whose names are numbered from 0, as slot_0, slot_1 and so on, which are slot[0], slot[1].
use Rattle.std.specs.Prelude.{◌≡◌, ℕ, ◌+◌, ◌-◌, ◌<◌, Bool, not, ◌&&◌, nat_eq, nat_lt, nat_le, List, [], ◌++◌, length, take, drop, slice_index, slice_index_or, if◌then◌else◌, codes, Option, None, is_some}
use Rattle.std.specs.Fmt.{decimal}
use Rattle.std.specs.List.{find, range_with_len, starts_with}
use Rattle.std.specs.Option.{option_map_or}
use Rattle.std.specs.Str.{bytes_eq}
use Rattle.rg_words.specs.Layout.{Word, names_of, widths_of, index_of, IsLayout}
use Rattle.rg_c_values.specs.CNames.{c_name}

-- the name of the k-th word
abbrev pub name_at : List Word → ℕ → List ℕ
name_at words k = slice_index_or (names_of words) k []

-- the name of an array whose first word has this name: without `_0` at its end
abbrev pub base_of : List ℕ → List ℕ
base_of name = take (length name - 2) name

-- the name is this one with `_` and the number i behind it
abbrev pub is_numbered : List ℕ → ℕ → List ℕ → Bool
is_numbered base i name = starts_with nat_eq name base && bytes_eq (drop (length base) name) (codes "_" ++ decimal i)

-- of an array that begins at the k-th word, the word i places further is the i-th item: it has this name, and the first word's width
abbrev pub is_item : List Word → ℕ → ℕ → Bool
is_item words k i =
    nat_lt (k + i) (length words)
    && (is_numbered (base_of (name_at words k)) i (name_at words (k + i)) && nat_eq (slice_index (widths_of words) (k + i)) (slice_index (widths_of words) k))

-- how many items there are from the k-th word on
abbrev pub items_at : List Word → ℕ → ℕ
items_at words k = option_map_or (λ i. i) (find (λ i. not (is_item words k i)) (range_with_len 0 (length words))) (length words)

-- how long the array is that begins at the k-th word: it has two items at least, and no word has its name; 0 where there is none
abbrev pub array_length : List Word → ℕ → ℕ
array_length words k = if nat_lt 1 (items_at words k) && not (is_some (index_of words (base_of (name_at words k)))) then items_at words k else 0

-- where the array begins that the k-th word is in, if it is in one
abbrev pub array_of : List Word → ℕ → Option ℕ
array_of words k = find (λ j. nat_le j k && nat_lt (k - j) (array_length words j)) (range_with_len 0 (length words))

-- what is in an array, at this index
abbrev pub indexed : List ℕ → List ℕ → List ℕ
indexed array index = array ++ (codes "[" ++ (index ++ codes "]"))

-- the name in C of the array that begins at the j-th word
abbrev pub array_name : List Word → ℕ → List ℕ
array_name words j = c_name (base_of (name_at words j))

-- the k-th word as a member of the struct
unfoldable pub member_of : List Word → ℕ → List ℕ
member_of words k = option_map_or (λ j. indexed (array_name words j) (decimal (k - j))) (array_of words k) (c_name (name_at words k))

-- the name in the struct of the array that the k-th word is in, or of the word itself
abbrev pub name_in_struct : List Word → ℕ → List ℕ
name_in_struct words k = option_map_or (array_name words) (array_of words k) (c_name (name_at words k))

-- words of one name in the struct are in the same array, or are the same word
abbrev pub MembersStayApart : Type 0
MembersStayApart =
    (words : List Word) → IsLayout words → (j k : ℕ) → j < length words → k < length words → name_in_struct words j ≡ name_in_struct words k →
    (array_of words j ≡ array_of words k) × (array_of words k ≡ None → j ≡ k)
