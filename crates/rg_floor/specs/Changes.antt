-- Changes of words, and the records that they stand for.
use Rattle.std.specs.Prelude.{ℕ, suc, ◌==◌, List, [], ◌∷◌, All, if◌then◌else◌}
use Rattle.rg_tree.specs.Traces.{State}
use Rattle.rg_tree.specs.Statements.{ProgramTree}
use Rattle.rg_tree.specs.declared.moves.WordValue.{WordValue}
use Rattle.rg_tree.specs.Moves.{given, IsValueOf}
use Rattle.rg_monitor.specs.Entry.{Entry, entry_of}

-- who made a step (0 is the environment, else a part by its number), at which line, and the values that words got by it
pub record Changing : Type 0 where
  pub who : ℕ
  pub line : ℕ
  pub values : List WordValue

-- the words, numbered from k, that differ between two states, with their values in the second
abbrev pub changed : ℕ → State → State → List WordValue
changed k (x ∷ xs) (y ∷ ys) =
    if x == y then changed (suc k) xs ys else (record { word = k; value = y }) ∷ changed (suc k) xs ys
changed k _ _ = []

-- the change of a step from s to t
abbrev pub change_of : ℕ → ℕ → State → State → Changing
change_of who line s t = record { who = who; line = line; values = changed 0 s t }

-- the records of changes, after n others, from a state on
abbrev pub rebuilt : ProgramTree → ℕ → State → List Changing → List Entry
rebuilt p n s [] = []
rebuilt p n s (c ∷ cs) =
    entry_of p (suc n) c.who c.line s (given c.values s) ∷ rebuilt p (suc n) (given c.values s) cs

-- the state after changes
abbrev pub state_after : State → List Changing → State
state_after s [] = s
state_after s (c ∷ cs) = state_after (given c.values s) cs

-- each value that is given is one of its word
abbrev pub AreChangesOf : List ℕ → List Changing → Type 0
AreChangesOf widths cs = All (λ (c : Changing). All (IsValueOf widths) c.values) cs
