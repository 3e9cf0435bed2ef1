-- The names of the conditions of a derivation.
use Rattle.std.specs.Prelude.{ℕ, List, ◌++◌}
use Rattle.rg_tree.specs.Statements.{ProgramTree}
use Rattle.rg_tree.specs.Lines.{LineTree}
use Rattle.rg_rules.specs.Names.{line_names}
use Rattle.rg_par.specs.Names.{parallel_names}

-- the names of all conditions: first of the lines, then of the parallel parts
abbrev pub names_of_conditions : ProgramTree → List LineTree → List (List ℕ)
names_of_conditions p lines = line_names 1 lines ++ parallel_names p.parts
