-- What a header says of parts that run on one core.
use Rattle.std.specs.Prelude.{ℕ, ◌+◌, nat_eq, List, [], ◌∷◌, ◌++◌, codes, length, Option, if◌then◌else◌}
use Rattle.rg_tree.specs.Statements.{PartTree, ProgramTree}
use Rattle.rg_c_plan.specs.declared.order.Rank.{Rank}
use Rattle.rg_c_report.specs.Orders.{interrupted}
use Rattle.rg_c_report.specs.Words.{commas}
use Rattle.rg_c.specs.Heads.{order_open}

-- those that a part interrupts, to the end of the line
unfoldable pub interrupted_text : List (List ℕ) → List ℕ
interrupted_text names = codes " interrupts " ++ (commas names ++ codes "\n")

-- a part, and those
unfoldable pub interrupting_line : List ℕ → List (List ℕ) → List ℕ
interrupting_line name names = codes " *   " ++ (name ++ interrupted_text names)

-- nothing is said where there are none
abbrev pub handler_line : List ℕ → List (List ℕ) → List ℕ
handler_line name names = if nat_eq (length names) 0 then [] else interrupting_line name names

-- the parts from the i-th one on
abbrev pub handler_lines : ProgramTree → List (Option Rank) → ℕ → List PartTree → List ℕ
handler_lines p order i [] = []
handler_lines p order i (part ∷ parts) = handler_line part.name (interrupted p order i) ++ handler_lines p order (i + 1) parts

-- what is presumed of parts that run on one core, if some do
unfoldable pub order_text : ProgramTree → List (Option Rank) → List ℕ
order_text p order = if nat_eq (length order) 0 then [] else order_open ++ handler_lines p order 0 p.parts
