-- What a floor keeps: a legal history.
use Rattle.std.specs.Prelude.{◌≡◌, ℕ, suc, ◌+◌, ◌≤◌, ◌==◌, Bool, true, List, [], ◌∷◌, length, map, if◌then◌else◌}
use Rattle.rg_tree.specs.Meaning.{holds}
use Rattle.rg_tree.specs.Statements.{ProgramTree}
use Rattle.rg_tree.specs.Traces.{State, Step, holds_at, IsTraceOf, last_of}
use Rattle.rg_tree.specs.Programs.{IsSatisfied, OthersInside}
use Rattle.rg_code.specs.Code.{BlockTree, HasRunsOf, PlacesGo, zeros}
use Rattle.rg_monitor.specs.Entry.{Entry, covering}
use Rattle.rg_floor.specs.Changes.{Changing, change_of, rebuilt}
use Rattle.rg_floor.specs.Ready.{line_at}

-- what contracts see of a floor: the words, the place of each part, each step's change, the records, whether the run was stopped,
-- and whether moves may still come
pub record FloorView : Type 0 where
  pub words : State
  pub places : List ℕ
  pub changes : List Changing
  pub history : List Entry
  pub stopped : Bool
  pub more : Bool

-- the step of a record, and of records
abbrev pub step_of : Entry → Step
step_of r = record { who = r.who; after = r.after }

abbrev pub steps_of : List Entry → List Step
steps_of [] = []
steps_of (r ∷ rs) = step_of r ∷ steps_of rs

-- how many steps parts made
abbrev pub own_steps : List Entry → ℕ
own_steps [] = 0
own_steps (r ∷ rs) = (if r.who == 0 then 0 else 1) + own_steps rs

-- how many steps one part made; for 0, how many the environment made
abbrev pub steps_by : ℕ → List Entry → ℕ
steps_by who [] = 0
steps_by who (r ∷ rs) = (if r.who == who then 1 else 0) + steps_by who rs

-- the change of a record: who made its step, at which line, and exactly the words that differ after it, in their order, with their
-- new values
abbrev pub change_in : Entry → Changing
change_in r = change_of r.who r.line r.before r.after

-- the record of a step from these places and this state, after n records: it has the next number, this state, the line of the
-- part's block (0 for the environment), and all parts whose guarantee the step is inside
pub record IsRecordAt (p : ProgramTree) (codes : List (List BlockTree)) (n : ℕ) (ks : List ℕ) (s : State) (r : Entry) : Type 0 where
  pub number : r.number ≡ n + 1
  pub before : r.before ≡ s
  pub line : r.line ≡ line_at codes ks r.who
  pub cover : r.cover ≡ covering 1 p.parts s r.after

-- records, after n others, lead from places to places: each is that of its step, and each step is one of the code
abbrev pub RecordsLead : ProgramTree → List (List BlockTree) → ℕ → List ℕ → State → List Entry → List ℕ → Type 0
RecordsLead p codes n ks s [] ks' = ks' ≡ ks
RecordsLead p codes n ks s (r ∷ rs) ks' =
    (mid : List ℕ) × IsRecordAt p codes n ks s r × PlacesGo 1 codes ks mid s (step_of r) × RecordsLead p codes (suc n) mid r.after rs ks'

-- the program satisfies its specification, and the code has exactly its runs, for as many parts
pub record GoTogether (p : ProgramTree) (codes : List (List BlockTree)) : Type 0 where
  pub satisfied : IsSatisfied p
  pub runs : HasRunsOf p codes
  pub parts : length codes ≡ length p.parts

-- a legal floor of this program, code, start and limit: the start is in the pre; the history is that of the changes, and the changes
-- are exactly those of its records; as a trace
-- from the start it is one of states in which no fixed word changes; its steps are those of the code, and lead to the places and
-- the words; steps of the environment are inside the rely; and no more than the limit are by parts
pub record IsLegal (p : ProgramTree) (codes : List (List BlockTree)) (start : State) (limit : ℕ) (f : FloorView) : Type 0 where
  pub lawful : ∥ GoTogether p codes ∥₁
  pub start_in_pre : holds_at p.spec.pre start ≡ true
  pub history_is : f.history ≡ rebuilt p 0 start f.changes
  pub changes_are : f.changes ≡ map change_in f.history
  pub trace : IsTraceOf p.words (length codes) start (steps_of f.history)
  pub leads : RecordsLead p codes 0 (zeros codes) start f.history f.places
  pub words_are : f.words ≡ last_of start (steps_of f.history)
  pub rely : OthersInside (holds p.spec.rely) start (steps_of f.history)
  pub within : own_steps f.history ≤ limit
