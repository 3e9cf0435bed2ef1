-- What the stages from a text to code hold.
use Rattle.std.specs.Prelude.{List, map}
use Rattle.rg_tree.specs.Statements.{ProgramTree}
use Rattle.rg_tree.specs.ProgramTrees.{program}
use Rattle.rg_tree.specs.Lines.{LineTree}
use Rattle.rg_tree.specs.Lines.{line_tree}
use Rattle.rg_code.specs.Code.{BlockTree}
use Rattle.rg_code.specs.CodeTrees.{code_blocks}
use Rattle.rg_accept.specs.declared.stages.Parsed.{Parsed}
use Rattle.rg_accept.specs.declared.stages.Derived.{Derived}
use Rattle.rg_accept.specs.declared.stages.Accepted.{Accepted}
use Rattle.rg_accept.specs.declared.stages.Emitted.{Emitted}

-- the program of a stage
abbrev pub parsed_program : Parsed → ProgramTree
parsed_program a = program a.program

-- the program whose derivation was read
abbrev pub derived_program : Derived → ProgramTree
derived_program a = program a.program

-- the program that was accepted
abbrev pub accepted_program : Accepted → ProgramTree
accepted_program a = program a.program

-- the program whose code was made
abbrev pub emitted_program : Emitted → ProgramTree
emitted_program a = program a.program

-- the lines of a derivation that was read
abbrev pub derived_lines : Derived → List LineTree
derived_lines a = map line_tree a.derivation.lines.items

-- the lines that an accepted program rests on
abbrev pub accepted_lines : Accepted → List LineTree
accepted_lines a = map line_tree a.derivation.lines.items

-- those of a program whose code was made
abbrev pub emitted_lines : Emitted → List LineTree
emitted_lines a = map line_tree a.derivation.lines.items

-- the blocks of emitted code, part by part
abbrev pub emitted_blocks : Emitted → List (List BlockTree)
emitted_blocks a = code_blocks a.code
