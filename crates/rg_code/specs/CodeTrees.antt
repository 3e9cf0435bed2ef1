-- A code, without where it lies in memory.
use Rattle.std.specs.Prelude.{ℕ, List, map, string_bytes}
use Rattle.rg_tree.specs.declared.program.Program.{Program}
use Rattle.rg_code.specs.declared.code.Code.{Code}
use Rattle.rg_code.specs.Code.{BlockTree}
use Rattle.rg_code.specs.BlockView.{blocks}

-- the blocks of all parts
abbrev pub code_blocks : Code → List (List BlockTree)
code_blocks c = map blocks c.parts.items

-- the names of its parts, in order, and of a program's
abbrev pub names_of_code : Code → List (List ℕ)
names_of_code c = map (λ p. string_bytes p.name) c.parts.items

-- the names of a program's parts, in their order
abbrev pub names_of_program : Program → List (List ℕ)
names_of_program p = map (λ q. string_bytes q.name) p.parts.items
