use Rattle.std.proofs.Common.{List, drop}
use Rattle.rg_outline_meaning.specs.Names.{Known}
use Rattle.rg_outline_meaning.specs.Programs.{KnownAfter}
use Rattle.rg_outline_meaning.specs.Reading.{ReadsSame}
use Rattle.rg_outline_meaning.specs.View.{outline, knowns}
use Rattle.rg_outline_meaning.proofs.names.Reader.know_heads.Given as goal

-- what is known after the heads that are left is known after all
abbrev pub invariant-loop-head : goal.invariant-loop-head
invariant-loop-head l = ReadsSame l.fn.self l.self × ((all : List Known) → KnownAfter (outline l.fn.self) (knowns l.self) (drop l.head-index l.heads) all → KnownAfter (outline l.fn.self) (knowns l.fn.self) l.heads all)
