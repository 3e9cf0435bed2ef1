-- Which parts a part interrupts.
use Rattle.std.specs.Prelude.{ℕ, ◌+◌, List, [], ◌∷◌, Option, if◌then◌else◌}
use Rattle.rg_tree.specs.Statements.{PartTree, ProgramTree}
use Rattle.rg_c_plan.specs.Orders.{interrupts}
use Rattle.rg_c_plan.specs.declared.order.Rank.{Rank}

-- the names of these parts, of which the first is the j-th, that the i-th interrupts
abbrev pub interrupted_from : List (Option Rank) → ℕ → ℕ → List PartTree → List (List ℕ)
interrupted_from order i j [] = []
interrupted_from order i j (part ∷ parts) =
    if interrupts order i j then part.name ∷ interrupted_from order i (j + 1) parts else interrupted_from order i (j + 1) parts

-- and of all parts
abbrev pub interrupted : ProgramTree → List (Option Rank) → ℕ → List (List ℕ)
interrupted p order i = interrupted_from order i 0 p.parts
