use Rattle.std.proofs.Common.{List, ◌++◌, drop, take}
use Rattle.rg_words.specs.Layout.{Word}
use Rattle.rg_outline_meaning.specs.Names.{Known}
use Rattle.rg_outline_meaning.specs.Programs.{AreDeclared}
use Rattle.rg_outline_meaning.specs.Reading.{ReadsSame}
use Rattle.rg_outline_meaning.specs.View.{outline, words, knowns}
use Rattle.rg_outline_meaning.proofs.names.Reader.know_words.Given as goal

-- the words so far, before those of the declarations that are left
abbrev pub invariant-loop-declaration : goal.invariant-loop-declaration
invariant-loop-declaration l = ReadsSame l.fn.self l.self × ((all : List Known) (rest : List Word) → AreDeclared (outline l.fn.self) (words l.fn.self) (knowns l.self) (drop l.declaration-index l.declaration-items) all rest → AreDeclared (outline l.fn.self) (words l.fn.self) (knowns l.fn.self) l.declaration-items all (take l.place (words l.fn.self) ++ rest))
