-- The lines of records.
use Rattle.std.specs.Prelude.{ℕ, ◌≤◌, ◌==◌, List, [], ◌∷◌, ◌++◌, if◌then◌else◌, Option, Some, None, All, length, codes, decimal}
use Rattle.std.specs.Str.{bytes_eq}
use Rattle.rg_words.specs.Layout.{Word}
use Rattle.rg_words.specs.States.{IsState}
use Rattle.rg_tree.specs.Statements.{PartTree, ProgramTree}
use Rattle.rg_tree.specs.Traces.{State}
use Rattle.rg_tree.specs.Programs.{nth}
use Rattle.rg_monitor.specs.Entry.{Entry}

-- a part's name, and env where there is none
abbrev pub name_or_env : Option PartTree → List ℕ
name_or_env None = codes "env"
name_or_env (Some p) = p.name

-- the name of the part of this number, from 1, and env for the environment, which is 0
abbrev pub name_of : List PartTree → ℕ → List ℕ
name_of parts who = name_or_env (nth parts who)

-- a space, and a word with its values before and after
abbrev pub change_text : List ℕ → ℕ → ℕ → List ℕ
change_text name x y = codes " " ++ name ++ codes "=" ++ decimal x ++ codes ">" ++ decimal y

-- that of a word which changed, and nothing for one which didn't
abbrev pub change_if : List ℕ → ℕ → ℕ → List ℕ
change_if name x y = if x == y then [] else change_text name x y

-- the changed words, in the order of declaration
abbrev pub changes_text : List Word → State → State → List ℕ
changes_text (w ∷ ws) (x ∷ xs) (y ∷ ys) = change_if w.name x y ++ changes_text ws xs ys
changes_text [] xs ys = []
changes_text (w ∷ ws) [] ys = []
changes_text (w ∷ ws) (x ∷ xs) [] = []

-- the same, and the word same where none changed
abbrev pub words_text : List Word → State → State → List ℕ
words_text words s t = if bytes_eq s t then codes " same" else changes_text words s t

-- a space and a name for each of these parts
abbrev pub names_text : List PartTree → List ℕ → List ℕ
names_text parts [] = []
names_text parts (k ∷ ks) = (codes " " ++ name_of parts k) ++ names_text parts ks

-- the same, and a dash where there is none
abbrev pub cover_text : List PartTree → List ℕ → List ℕ
cover_text parts [] = codes " -"
cover_text parts (k ∷ ks) = names_text parts (k ∷ ks)

-- the line of an entry: its number, who made the step, the statement's line, what changed, and in whose guarantees it is
abbrev pub line_of : ProgramTree → Entry → List ℕ
line_of program r =
    decimal r.number ++ codes " " ++ name_of program.parts r.who ++ codes " " ++ decimal r.line ++ words_text program.words r.before r.after
    ++ codes " in" ++ cover_text program.parts r.cover ++ codes "\n"

-- the lines of entries, one after another
abbrev pub lines_of : ProgramTree → List Entry → List ℕ
lines_of program [] = []
lines_of program (r ∷ rs) = line_of program r ++ lines_of program rs

-- the entry speaks of the program's words and of no part that the program hasn't
pub record Fits (program : ProgramTree) (r : Entry) : Type 0 where
  pub who : r.who ≤ length program.parts
  pub cover : All (λ k. k ≤ length program.parts) r.cover
  pub before : IsState program.words r.before
  pub after : IsState program.words r.after
