-- What words are called in a script.
use Rattle.std.specs.Prelude.{ℕ, ◌+◌, false, List, [], ◌∷◌, ◌++◌, codes, nat_eq, if◌then◌else◌, slice_index_or}
use Rattle.std.specs.Fmt.{decimal}
use Rattle.rg_words.specs.Layout.{Word, fixed_of}
use Rattle.rg_tree.specs.Trees.{Assignment}
use Rattle.rg_tree.specs.Printed.{name_text}

-- a state in which words are read: a second one that is free, or the first one once these assignments are done, of which there may be none
pub data Reading : Type 0 where
  second : Reading
  done : List Assignment → Reading

-- the number of the last of these assignments to the k-th word, where n come before them; if none is to it, the number that was found before
abbrev pub last_after : ℕ → List Assignment → ℕ → ℕ → ℕ
last_after k [] n found = found
last_after k (a ∷ as_) n found = last_after k as_ (n + 1) (if nat_eq a.target k then n + 1 else found)

-- the number, from 1, of the last of these assignments to the k-th word; 0 where none is to it
abbrev pub last_to : ℕ → List Assignment → ℕ
last_to k as_ = last_after k as_ 0 0

-- what stands after a name: `'` in a second state, in which a fixed word is what it was; `@n` after the n-th assignment, and `@0` before them
abbrev pub suffix : List Word → Reading → ℕ → List ℕ
suffix words second k = if slice_index_or (fixed_of words) k false then codes "@0" else codes "'"
suffix words (done as_) k = codes "@" ++ decimal (last_to k as_)

-- the k-th word, as a quoted symbol, which is that of no operation
abbrev pub symbol : List Word → Reading → ℕ → List ℕ
symbol words r k = codes "|" ++ (name_text words k ++ (suffix words r k ++ codes "|"))
