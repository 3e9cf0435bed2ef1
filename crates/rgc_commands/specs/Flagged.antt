-- Which words are left out.
use Rattle.std.specs.Prelude.{ℕ, Bool, false, not, ◌||◌, nat_eq, List, [], Option, Some, None, length, map, find, get_or, is_some, slice_index_or}
use Rattle.std.specs.List.{list_any, range_with_len, slice_split}
use Rattle.std.specs.Borrow.{Bor}
use Rattle.std.specs.Str.{bytes_eq}
use Rattle.rg_words.specs.Layout.{Word, names_of, index_of}

-- the names in a text, with commas between them
abbrev pub names_in : List ℕ → List (List ℕ)
names_in text = slice_split (λ b. nat_eq b 44) text

-- this is one of the names
abbrev pub is_one : List ℕ → List ℕ → Bool
is_one names name = list_any (λ one. bytes_eq one name) (names_in names)

-- it is a word's name
abbrev pub is_word_name : List Word → List ℕ → Bool
is_word_name words name = is_some (index_of words name)

-- the first of the names that is no word's
abbrev pub stranger : List Word → List ℕ → Option (List ℕ)
stranger words names = find (λ one. not (is_word_name words one)) (names_in names)

-- the k-th word is one of the names, where there are some
abbrev pub is_listed : List Word → Option (Bor (List ℕ)) → ℕ → Bool
is_listed words None k = false
is_listed words (Some names) k = is_one names.now (slice_index_or (names_of words) k [])

-- it is left out: it is flagged, or one of the names
abbrev pub is_left_out : List Word → Option (Bor (List ℕ)) → List Bool → ℕ → Bool
is_left_out words names flagged k = get_or flagged k false || is_listed words names k

-- for each word whether it is left out
abbrev pub flags_for : List Word → Option (Bor (List ℕ)) → List Bool → List Bool
flags_for words names flagged = map (is_left_out words names flagged) (range_with_len 0 (length words))
