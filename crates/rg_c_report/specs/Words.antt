-- Texts, numbers and names of words.
use Rattle.std.specs.Prelude.{ℕ, List, [], ◌∷◌, ◌++◌, codes, nat_eq, slice_index_or, if◌then◌else◌}
use Rattle.std.specs.List.{flat_map}
use Rattle.std.specs.Fmt.{decimal}
use Rattle.rg_words.specs.Layout.{Word, names_of}

-- texts, one after another
abbrev pub joined : List (List ℕ) → List ℕ
joined texts = flat_map (λ t. t) texts

-- a number, and what is said of one thing or of several; of none as of several
unfoldable pub counted : ℕ → List ℕ → List ℕ → List ℕ
counted n one several = decimal n ++ (if nat_eq n 1 then one else several)

-- the name of the k-th word
abbrev pub name_of : List Word → ℕ → List ℕ
name_of words k = slice_index_or (names_of words) k []

-- texts, each after a comma
abbrev pub after_commas : List (List ℕ) → List ℕ
after_commas texts = flat_map (λ t. codes ", " ++ t) texts

-- texts with commas between them
abbrev pub commas : List (List ℕ) → List ℕ
commas [] = []
commas (t ∷ texts) = t ++ after_commas texts
