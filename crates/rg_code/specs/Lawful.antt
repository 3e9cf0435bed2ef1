-- A program and its code, of which it is known that they go together.
use Rattle.std.specs.Prelude.{◌≡◌}
use Rattle.rg_tree.specs.declared.program.Program.{Program}
use Rattle.rg_tree.specs.ProgramTrees.{program}
use Rattle.rg_tree.specs.Programs.{IsSatisfied}
use Rattle.rg_code.specs.declared.code.Code.{Code}
use Rattle.rg_code.specs.Code.{HasRunsOf}
use Rattle.rg_code.specs.CodeTrees.{code_blocks, names_of_code, names_of_program}

-- the program satisfies its specification, and the code has exactly its runs, over its words and for its parts
pub record IsLawful (source : Program) (code : Code) : Type 0 where
  pub satisfied : IsSatisfied (program source)
  pub runs : HasRunsOf (program source) (code_blocks code)
  pub words : code.layout ≡ source.layout
  pub names : names_of_code code ≡ names_of_program source
