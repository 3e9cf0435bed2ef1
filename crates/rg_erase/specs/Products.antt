-- What is left where words are erased.
use Rattle.std.specs.Prelude.{List}
use Rattle.rg_code.specs.Code.{BlockTree}
use Rattle.rg_code.specs.CodeTrees.{code_blocks}
use Rattle.rg_tree.specs.Statements.{ProgramTree}
use Rattle.rg_tree.specs.ProgramTrees.{program}
use Rattle.rg_erase.specs.declared.product.Erased.{Erased}

-- the program that is left
abbrev pub program_left : Erased → ProgramTree
program_left e = program e.program

-- the blocks of its code, part by part
abbrev pub blocks_left : Erased → List (List BlockTree)
blocks_left e = code_blocks e.code
