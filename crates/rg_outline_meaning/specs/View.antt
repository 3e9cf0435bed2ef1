-- What is read of an outline by the code, without where it lies in memory.
use Rattle.std.specs.Prelude.{List, map}
use Rattle.rg_words.specs.Layout.{Word}
use Rattle.rg_tree.specs.View.{expression, formula}
use Rattle.rg_outline_meaning.specs.Meanings as spec
use Rattle.rg_outline_meaning.specs.Meanings.{whole, value, claim}
use Rattle.rg_outline_meaning.specs.Names as name
use Rattle.rg_outline_meaning.specs.Names.{Outline, text_of, parameters_of, listed, family, tree, statements, part_number}
use Rattle.rg_outline_meaning.specs.Members as family
use Rattle.rg_outline_meaning.specs.Expressions.{one, among}
use Rattle.rg_outline_meaning.specs.Expressions as expressions
use Rattle.rg_outline_meaning.specs.Programs as programs
use Rattle.rg_outline_meaning.specs.declared.parts.Clauses.{Clauses}
use Rattle.rg_outline_meaning.specs.declared.meaning.Meaning.{Meaning}
use Rattle.rg_outline_meaning.specs.declared.meaning.Meaning.TheVariants.{Whole, Value, Formula}
use Rattle.rg_outline_meaning.specs.declared.names.Sense.{Sense}
use Rattle.rg_outline_meaning.specs.declared.names.Sense.TheVariants.{Family, Let, Procedure, Number}
use Rattle.rg_outline_meaning.specs.declared.names.Known.{Known}
use Rattle.rg_outline_meaning.specs.declared.names.Bound.{Bound}
use Rattle.rg_outline_meaning.specs.declared.names.Names.{Names}
use Rattle.rg_outline_meaning.specs.declared.names.Reader.{Reader}
use Rattle.rg_outline_meaning.specs.declared.selected.Member.{Member}
use Rattle.rg_outline_meaning.specs.declared.selected.Selected.{Selected}
use Rattle.rg_outline_meaning.specs.declared.selected.Selected.TheVariants.{Word as SelectedWord, Among}

-- what an expression stands for
abbrev pub meaning : Meaning → spec.Meaning
meaning (Whole z) = whole z
meaning (Value e) = value (expression e)
meaning (Formula p) = claim (formula p)

-- what a name of an outline or a part stands for
abbrev pub sense : Outline → Sense → name.Sense
sense o (Family ranges) = family ranges.items
sense o (Let l) = tree (parameters_of o l.parameters) l.body
sense o (Procedure p) = statements (parameters_of o p.parameters) (listed o p.body)
sense o (Number z) = part_number z

abbrev pub known : Outline → Known → name.Known
known o k = record { name = text_of o k.name; since = k.since; sense = sense o k.sense }

abbrev pub bound : Outline → Bound → name.Bound
bound o b = record { name = text_of o b.name; meaning = meaning b.meaning }

-- the outline that is read, and the words that it has to declare
abbrev pub outline : Reader → Outline
outline r = record { source = r.source.now; written = r.written.now }

abbrev pub words : Reader → List Word
words r = r.layout.now

-- the names of the outline and the part so far
abbrev pub knowns : Reader → List name.Known
knowns r = map (known (outline r)) r.known.items

-- the names that are known at a place
abbrev pub names : Reader → Names → name.Names
names r n = record { known = knowns r; bound = map (bound (outline r)) n.bound.items }

-- what is selected
abbrev pub candidate : Member → family.Candidate
candidate m = record { number = m.number; word = m.word }

abbrev pub selected : Selected → expressions.Selected
selected (SelectedWord k) = one k
selected (Among e c cs) = among (expression e) (candidate c) (map candidate cs.items)

-- the formulas of clauses
abbrev pub clauses : Clauses → programs.Clauses
clauses c = record { pre = map formula c.pre.items; rely = map formula c.rely.items; guar = map formula c.guar.items; post = map formula c.post.items }
