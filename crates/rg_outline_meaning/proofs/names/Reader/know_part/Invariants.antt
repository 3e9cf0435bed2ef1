use Rattle.std.proofs.Common.{ℕ, List, Option, drop}
use Rattle.std.specs.Option.{option_or}
use Rattle.rg_outline_meaning.specs.Names.{Known}
use Rattle.rg_outline_meaning.specs.Programs.{PartKnows}
use Rattle.rg_outline_meaning.specs.Reading.{ReadsSame}
use Rattle.rg_outline_meaning.specs.View.{outline, words, knowns}
use Rattle.rg_outline_meaning.proofs.names.Reader.know_part.Given as goal

-- what is known after the heads that are left is known after all, and the first word that is owned
abbrev pub invariant-loop-head : goal.invariant-loop-head
invariant-loop-head l = ReadsSame l.fn.self l.self × ((all : List Known) (later : Option ℕ) → PartKnows (outline l.fn.self) (words l.fn.self) (knowns l.self) (drop l.head-index l.heads) all later → PartKnows (outline l.fn.self) (words l.fn.self) (knowns l.fn.self) l.heads all (option_or l.owned later))
