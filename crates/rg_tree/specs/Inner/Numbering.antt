-- What the functions that number statements do to a list.
use Rattle.std.specs.Prelude.{◌≡◌, ℕ, ◌+◌, List, ◌++◌, length}
use Rattle.rg_tree.specs.Statements.{Statement}
use Rattle.rg_tree.specs.Numbering.{numbered_from}
use Rattle.rg_tree.specs.declared.numbered.Numbered.{Numbered}

-- these statements of a part were added to the end, numbered on
abbrev pub Adds : ℕ → List Statement → List Numbered → List Numbered → Type 0
Adds part ss old new = new ≡ old ++ numbered_from part (length old + 1) ss
