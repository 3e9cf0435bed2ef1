use Rattle.std.proofs.Common.{List, drop}
use Rattle.rg_outline_meaning.specs.Names.{Known}
use Rattle.rg_outline_meaning.specs.Programs.{Clauses, ClausesStandFor}
use Rattle.rg_outline_meaning.specs.Reading.{ReadsSame, both}
use Rattle.rg_outline_meaning.specs.View.{outline, words, knowns, clauses}
use Rattle.rg_outline_meaning.proofs.names.Reader.clauses.Given as goal

-- the formulas so far, before those of the heads that are left
abbrev pub invariant-loop-head : goal.invariant-loop-head
invariant-loop-head l = ReadsSame l.fn.self l.self × ((all : List Known) (c : Clauses) → ClausesStandFor (outline l.fn.self) (words l.fn.self) (knowns l.self) (drop l.head-index l.heads) all c → ClausesStandFor (outline l.fn.self) (words l.fn.self) (knowns l.fn.self) l.heads all (both (clauses l.clauses) c))
