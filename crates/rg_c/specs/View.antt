-- Statements and assignments of C in the code, without where they lie in memory.
use Rattle.std.specs.Prelude.{ℕ, List, [], ◌∷◌, ◌++◌, codes, length, map, nat_eq, Some, option_map, string_bytes, if◌then◌else◌}
use Rattle.rg_words.specs.Layout.{Word as Declared, widths_of}
use Rattle.rg_tree.specs.Trees.{Proposition}
use Rattle.rg_c_plan.specs.Ways.{way_of}
use Rattle.rg_c_values.specs.Translation.{test_in_c}
use Rattle.rg_c_plan.specs.declared.kind.Kind.{Kind as WordKind}
use Rattle.rg_c_values.specs.declared.print.Read.{Read}
use Rattle.rg_c_values.specs.View.{value, test}
use Rattle.rg_c_values.specs.Printed.{value_text}
use Rattle.rg_c_values.specs.Arrays.{member_of}
use Rattle.rg_c.specs.declared.tree.Target.TheVariants.{Local as ToLocal}
use Rattle.rg_c.specs.declared.tree.Flag.TheVariants.{Done}
use Rattle.rg_c.specs.declared.tree.Asked.{Asked}
use Rattle.rg_c.specs.declared.tree.Asked.TheVariants.{Asks, Flagged}
use Rattle.rg_c.specs.declared.tree.Given.{Given}
use Rattle.rg_c.specs.declared.tree.Item.{Item}
use Rattle.rg_c.specs.declared.tree.Line.{Line}
use Rattle.rg_c.specs.declared.tree.Line.TheVariants.{Remark, Hook, Loads, Discards, Begins, Exchanges, Declares, Decides, Breaks}
use Rattle.rg_c.specs.declared.tree.Code.{Code}
use Rattle.rg_c.specs.declared.tree.Code.TheVariants.{Nothing, Then', Which', Single, Copies, Returned, ToLocals, ToWords, Block', Forever', IfDone', When', Unless', Either'}
use Rattle.rg_c.specs.declared.tree.Sheet.{Sheet}
use Rattle.rg_c.specs.declared.operations.Operation.{Operation}
use Rattle.rg_c.specs.declared.print.Piece.{Piece}
use Rattle.rg_c.specs.declared.print.Piece.TheVariants.{Text, Name, Member, Kind, Value, Question as ThisQuestion, Contrary}
use Rattle.rg_c.specs.CStatements.{Question, asks, flag, CStatement, nothing, ◌⨾◌, remark, hook, loads, discards, begins, copies, exchanges, returns, declares, decides, breaks, block, forever, when, unless, either, each}
use Rattle.rg_c.specs.Printed.{name_of, type_of, question_text, contrary_text, inner, opens, printed}
use Rattle.rg_c.specs.Assigned.{GivenTree, assigned_to}
use Rattle.rg_c.specs.Together.{ItemTree, all_given}
use Rattle.rg_c.specs.Questions.{loaded_reads, before, question as question_at, stops_unless}
use Rattle.rg_c.specs.Steps.{marked, if_done}
use Rattle.rg_c.specs.Bodies.{PageTree, mark_of, asked}
use Rattle.rg_c.specs.Operations.{OperationTree}

abbrev pub question : Asked → Question
question (Asks t) = asks (test t.now)
question (Flagged f) = flag f

abbrev pub given : Given → GivenTree
given g = record { test = option_map test g.test; word = g.word; value = value g.value }

abbrev pub item : Item → ItemTree
item it = record { index = value it.index.now; first = it.first; value = value it.value.now }

abbrev pub line : Line → CStatement
line (Remark text) = remark text.now
line (Hook text) = hook text.now
line (Loads k) = loads k
line (Discards k) = discards k
line (Begins k) = begins k
line (Exchanges k) = exchanges k
line (Declares f) = declares f
line (Decides f t) = decides f (test t.now)
line Breaks = breaks

-- a statement, over these words of these kinds
abbrev pub statement : List Declared → List WordKind → Code → CStatement
statement words kinds Nothing = nothing
statement words kinds (Then' p a q b) = statement words kinds a ⨾ statement words kinds b
statement words kinds (Which' b p c q d) = if b then statement words kinds c else statement words kinds d
statement words kinds (Single l) = line l
statement words kinds (Copies ks) = each copies ks.now
statement words kinds (Returned ks) = if_done (nat_eq (length ks.now) 0) (each returns ks.now)
statement words kinds (ToLocals gs) = each (assigned_to kinds ToLocal) (map given gs.now)
statement words kinds (ToWords gs) = all_given words kinds 0 (map given gs.now)
statement words kinds (Block' p c) = block (statement words kinds c)
statement words kinds (Forever' p c) = forever (statement words kinds c)
statement words kinds (IfDone' p c) = when (flag Done) (statement words kinds c)
statement words kinds (When' a p c) = when (question a) (statement words kinds c)
statement words kinds (Unless' a p c) = unless (question a) (statement words kinds c)
statement words kinds (Either' a p c q d) = either (question a) (statement words kinds c) (statement words kinds d)

-- a piece of a line
abbrev pub piece : List Declared → List Read → Piece → List ℕ
piece words reads (Text text) = text.now
piece words reads (Name k) = name_of words k
piece words reads (Member k) = member_of words k
piece words reads (Kind k) = type_of words k
piece words reads (Value v) = value_text words reads (value v.now)
piece words reads (ThisQuestion a) = question_text words reads (question a)
piece words reads (Contrary a) = contrary_text words reads (question a)

-- where statements are written: what their text depends on, and the text of one
abbrev pub page : Sheet → PageTree
page s = record { words = s.layout.now; kinds = s.kinds.now; part = s.part; traced = s.is_traced; lines = s.lines.now }

abbrev pub of : Sheet → Code → CStatement
of s c = statement s.layout.now s.kinds.now c

abbrev pub on : Sheet → CStatement → List ℕ
on s c = printed s.layout.now s.reads.now s.indent.now c

-- an `if` up to its first block, and a loop up to what is done in it
abbrev pub if_opened : Sheet → ℕ → ℕ → Proposition → List ℕ
if_opened s place row f =
    let words = s.layout.now in
    let way = way_of s.kinds.now (Some f) [] in
    let t = test_in_c (widths_of words) f in
    let reads = loaded_reads words s.kinds.now way t in
    on s (asked (page s) row (codes "if ") f)
    ++ (printed words reads s.indent.now (before (marked (mark_of (page s) place)) place way t)
    ++ opens s.indent.now (codes "if (" ∷ question_text words reads (question_at place way t) ∷ codes ") " ∷ []))

abbrev pub loop_opened : Sheet → ℕ → ℕ → Proposition → List ℕ
loop_opened s place row f =
    let words = s.layout.now in
    let way = way_of s.kinds.now (Some f) [] in
    let t = test_in_c (widths_of words) f in
    on s (asked (page s) row (codes "while ") f)
    ++ (opens s.indent.now (codes "for (;;) " ∷ [])
    ++ printed words (loaded_reads words s.kinds.now way t) (inner s.indent.now) (before (marked (mark_of (page s) place)) place way t ⨾ stops_unless (question_at place way t)))

-- one use of named statements
abbrev pub operation : Operation → OperationTree
operation o = record { part = o.part; name = string_bytes o.name; first = o.first; last = o.last }
