-- The statements of C for the body of a part.
use Rattle.std.specs.Prelude.{ℕ, ◌+◌, Bool, nat_eq, List, [], ◌∷◌, ◌++◌, codes, if◌then◌else◌, Option, Some, None}
use Rattle.std.specs.Option.{option_map_or}
use Rattle.std.specs.Fmt.{decimal}
use Rattle.rg_words.specs.Layout.{Word, widths_of}
use Rattle.rg_tree.specs.Trees.{Proposition, Assignment}
use Rattle.rg_tree.specs.Printed.{formula_text}
use Rattle.rg_tree.specs.Statements.{Statement, skip, assign, await, sequence, branch, loop, Items, one, more}
use Rattle.rg_code.specs.Code.{count_of}
use Rattle.rg_c_plan.specs.declared.kind.Kind.{Kind}
use Rattle.rg_c_plan.specs.Ways.{way_of}
use Rattle.rg_c_report.specs.Lines.{line_shown}
use Rattle.rg_c_values.specs.Translation.{test_in_c}
use Rattle.rg_c.specs.CStatements.{CStatement, ◌⨾◌, reading, remark, hook, forever, either}
use Rattle.rg_c.specs.Source.{assignment_source, assignments_source}
use Rattle.rg_c.specs.Steps.{marked, waiting, section_note, step_of}
use Rattle.rg_c.specs.Questions.{loaded_reads, before, question, stops_unless}

-- what the text of a part depends on: the words and their kinds as the part sees them, the part's place, from 0, whether steps are marked, and the lines that are
-- printed for those of the program
pub record PageTree : Type 0 where
  pub words : List Word
  pub kinds : List Kind
  pub part : ℕ
  pub traced : Bool
  pub lines : List ℕ

-- the mark of the step at this place in the listing of the code; an empty text where steps aren't marked
unfoldable pub mark_of : PageTree → ℕ → List ℕ
mark_of p place = if p.traced then codes "RGC_AT(" ++ (decimal p.part ++ (codes ", " ++ (decimal place ++ codes ")"))) else []

-- a line of the program, in its own words
abbrev pub sourced : PageTree → ℕ → List ℕ → CStatement
sourced p row text = remark (decimal (line_shown p.lines row) ++ (codes ": " ++ text))

-- an await in the program's own words
abbrev pub await_source : List Word → Proposition → List Assignment → List ℕ
await_source words f act = codes "await " ++ (formula_text words f [] ++ (codes " do " ++ (assignments_source words act ++ codes " end")))

-- a `skip`, and what stands for it; for one that nobody wrote, which has no line, nothing does
abbrev pub skipped : PageTree → ℕ → ℕ → CStatement → CStatement
skipped p place row c =
    if nat_eq (line_shown p.lines row) 0 then marked (mark_of p place) else sourced p row (codes "skip") ⨾ marked (mark_of p place) ⨾ c

-- the line of an `if` or a `while`, under its comment, and of its section
abbrev pub asked : PageTree → ℕ → List ℕ → Proposition → CStatement
asked p row what f = sourced p row (what ++ formula_text p.words f []) ⨾ section_note p.words p.kinds (Some f) []

-- an `if` over these two, which read words in their own ways, and a loop of this
abbrev pub chosen : PageTree → ℕ → ℕ → Proposition → CStatement → CStatement → CStatement
chosen p place row f a b =
    let way = way_of p.kinds (Some f) [] in
    let t = test_in_c (widths_of p.words) f in
    asked p row (codes "if ") f ⨾ reading (loaded_reads p.words p.kinds way t) (before (marked (mark_of p place)) place way t ⨾ either (question place way t) (reading [] a) (reading [] b))

abbrev pub looped : PageTree → ℕ → ℕ → Proposition → CStatement → CStatement
looped p place row f c =
    let way = way_of p.kinds (Some f) [] in
    let t = test_in_c (widths_of p.words) f in
    asked p row (codes "while ") f
    ⨾ forever (reading (loaded_reads p.words p.kinds way t) (before (marked (mark_of p place)) place way t ⨾ stops_unless (question place way t)) ⨾ c)

-- the line of a `skip`; nothing for another statement
abbrev pub idle_line : Statement → Option ℕ
idle_line (skip row) = Some row
idle_line s = None

abbrev mutual
  -- a statement, whose first step stands at this place in the listing of the code
  pub in_c : PageTree → ℕ → Statement → CStatement
  in_c p place (skip row) = skipped p place row (hook (codes "RGC_SKIP(" ++ (decimal (line_shown p.lines row) ++ codes ")")))
  in_c p place (assign row a) = sourced p row (assignment_source p.words a) ⨾ step_of p.words p.kinds (mark_of p place) None (a ∷ [])
  in_c p place (await row f act) = sourced p row (await_source p.words f act) ⨾ step_of p.words p.kinds (mark_of p place) (Some f) act
  in_c p place (sequence row s items) = in_c p place s ⨾ items_in_c p (place + count_of s) items
  in_c p place (branch row f s t) = chosen p place row f (in_c p (place + 1) s) (in_c p (place + 1 + count_of s) t)
  in_c p place (loop row f s) = looped p place row f (option_map_or (λ line. skipped p (place + 1) line waiting) (idle_line s) (in_c p (place + 1) s))

  -- the items of a sequence
  pub items_in_c : PageTree → ℕ → Items → CStatement
  items_in_c p place (one s) = in_c p place s
  items_in_c p place (more s items) = in_c p place s ⨾ items_in_c p (place + count_of s) items
