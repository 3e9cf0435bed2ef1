-- The lines of records as an outline names what they speak of.
use Rattle.std.specs.Prelude.{ℕ, List, [], ◌∷◌, ◌++◌, if◌then◌else◌, codes, decimal, slice_index_or}
use Rattle.std.specs.Str.{bytes_eq}
use Rattle.rg_tree.specs.Statements.{ProgramTree}
use Rattle.rg_tree.specs.Traces.{State}
use Rattle.rg_monitor.specs.Entry.{Entry}
use Rattle.rg_monitor.specs.Lines.{name_of, change_if, cover_text}

-- how an outline names a program's words, in the order of declaration, and which of its lines each line of the program's text comes from
pub record NamingView : Type 0 where
  pub words : List (List ℕ)
  pub lines : List ℕ

-- the changed words, in the order of declaration, by these names
abbrev pub changes_by : List (List ℕ) → State → State → List ℕ
changes_by (n ∷ ns) (x ∷ xs) (y ∷ ys) = change_if n x y ++ changes_by ns xs ys
changes_by [] xs ys = []
changes_by (n ∷ ns) [] ys = []
changes_by (n ∷ ns) (x ∷ xs) [] = []

-- the same, and the word same where none changed
abbrev pub words_by : List (List ℕ) → State → State → List ℕ
words_by names s t = if bytes_eq s t then codes " same" else changes_by names s t

-- the outline's line of a line of the text; 0 where there is none
abbrev pub line_in : List ℕ → ℕ → ℕ
line_in lines line = slice_index_or lines line 0

-- the line of an entry as a run prints it, but with the outline's line of the statement and with the outline's names of the words
abbrev pub reported_line : NamingView → ProgramTree → Entry → List ℕ
reported_line naming program r =
    decimal r.number ++ codes " " ++ name_of program.parts r.who ++ codes " " ++ decimal (line_in naming.lines r.line) ++ words_by naming.words r.before r.after
    ++ codes " in" ++ cover_text program.parts r.cover ++ codes "\n"

-- the lines of entries, one after another
abbrev pub reported_lines : NamingView → ProgramTree → List Entry → List ℕ
reported_lines naming program [] = []
reported_lines naming program (r ∷ rs) = reported_line naming program r ++ reported_lines naming program rs
