-- Assignments in the program's own words.
use Rattle.std.specs.Prelude.{ℕ, List, [], ◌∷◌, ◌++◌, codes, slice_index_or}
use Rattle.rg_words.specs.Layout.{Word, names_of}
use Rattle.rg_tree.specs.Trees.{Assignment}
use Rattle.rg_tree.specs.Printed.{expression_text}

-- the name of the k-th word
abbrev pub name_here : List Word → ℕ → List ℕ
name_here words k = slice_index_or (names_of words) k []

-- an assignment
abbrev pub assignment_source : List Word → Assignment → List ℕ
assignment_source words a = name_here words a.target ++ (codes " := " ++ expression_text words a.value [])

-- assignments, each after a semicolon
abbrev pub more_source : List Word → List Assignment → List ℕ
more_source words [] = []
more_source words (a ∷ act) = codes "; " ++ (assignment_source words a ++ more_source words act)

-- assignments, with a semicolon between them
abbrev pub assignments_source : List Word → List Assignment → List ℕ
assignments_source words [] = []
assignments_source words (a ∷ act) = assignment_source words a ++ more_source words act
