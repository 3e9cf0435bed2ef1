-- The typed program that a program without faults stands for.
use Rattle.std.specs.Prelude.{map}
use Rattle.rg_tree.specs.Statements as tree
use Rattle.rg_syntax.specs.Written.{WrittenProgram}
use Rattle.rg_resolve.specs.Words.{words_of}
use Rattle.rg_resolve.specs.Inner.ProgramTrees.{spec_tree, part_tree}

-- the typed tree of a program
abbrev pub program_tree : WrittenProgram → tree.ProgramTree
program_tree p = record { words = words_of p.words; spec = spec_tree (words_of p.words) p.spec; parts = map (part_tree (words_of p.words)) p.parts }
