-- A program of the code, without where it lies in memory.
use Rattle.std.specs.Prelude.{map}
use Rattle.rg_tree.specs.declared.program.Program.{Program}
use Rattle.rg_tree.specs.Statements.{ProgramTree}
use Rattle.rg_tree.specs.ProgramView.{specification, part}

-- a program of the code, without where it lies in memory
abbrev pub program : Program → ProgramTree
program p = record { words = p.layout; spec = specification p.spec; parts = map part p.parts.items }
