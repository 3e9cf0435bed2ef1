-- Sizes of statements by their numbers.
use Rattle.std.specs.Prelude.{◌≡◌, ℕ, ◌+◌, List, Some, length}
use Rattle.rg_tree.specs.Statements.{Statement, sequence, branch, Items, one, more}
use Rattle.rg_tree.specs.Numbering.{statements}
use Rattle.rg_tree.specs.Programs.{nth}

-- these sizes, by number, are those of the items but the last, of which the first is statement n
abbrev pub AreSized : List ℕ → ℕ → Items → Type 0
AreSized sizes n (one s) = Unit {0}
AreSized sizes n (more s items) = (nth sizes n ≡ Some (length (statements s))) × AreSized sizes (n + length (statements s)) items

-- they are those of the statements inside statement n of which the numbers of others are counted
abbrev pub IsSizedInside : List ℕ → ℕ → Statement → Type 0
IsSizedInside sizes n (sequence row s items) = AreSized sizes (n + 1) (more s items)
IsSizedInside sizes n (branch row b s t) = nth sizes (n + 1) ≡ Some (length (statements s))
IsSizedInside sizes n _ = Unit {0}
