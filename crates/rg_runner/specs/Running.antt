-- What a whole run promises.
use Rattle.std.specs.Prelude.{◌≡◌, ◌≢◌, ℕ, List, Option, Some, None, Result, Ok, Err, map}
use Rattle.std.specs.Io.KnownBytes.{Appends}
use Rattle.rg_words.specs.Refusals.{refused}
use Rattle.rg_words.specs.declared.refusal.Refusal.{Refusal}
use Rattle.rg_words.specs.declared.refusal.RefusalNumber.{RefusalNumber}
use Rattle.rg_tree.specs.Traces.{State}
use Rattle.rg_tree.specs.Statements.{ProgramTree}
use Rattle.rg_tree.specs.Moves.{MoveTree}
use Rattle.rg_code.specs.Code.{BlockTree}
use Rattle.rg_monitor.specs.Lines.{lines_of}
use Rattle.rg_floor.specs.History.{FloorView, IsLegal, change_in}
use Rattle.rg_floor.specs.Turns.{ClosedView, why_of}
use Rattle.rg_floor.specs.declared.turn.Why.TheVariants.{Stopped}
use Rattle.rg_runner.specs.Faults.{IsRunFault}
use Rattle.rg_floor.specs.Moves.{first_place, MovesStand}

-- what is left of a run of this program and code, from this start, with so many steps by parts at most, and with these moves: it ended
-- in a legal floor, whose words and places say why, and not since it was stopped; the history is the floor's, and the changes are exactly
-- those of its records; and the moves stand in it
pub record IsLeftOf (p : ProgramTree) (codes : List (List BlockTree)) (start : State) (limit : ℕ) (moves : List MoveTree) (c : ClosedView) : Type 0 where
  pub floor : FloorView
  pub legal : IsLegal p codes start limit floor
  pub why : c.why ≡ why_of codes limit floor
  pub over : c.why ≢ Stopped
  pub history : c.history ≡ floor.history
  pub changes : c.changes ≡ floor.changes
  pub exact : c.changes ≡ map change_in c.history
  pub moves_stand : MovesStand p.spec.rely limit (first_place p.words codes start) 1 moves c.refused c.history

-- a whole run: this is what is left of it, and the writer took the lines of its history, in order
pub record IsRunOf (p : ProgramTree) (codes : List (List BlockTree)) (start : State) (limit : ℕ) (moves : List MoveTree) (old new : Option (List ℕ)) (c : ClosedView) : Type 0 where
  pub left : IsLeftOf p codes start limit moves c
  pub text : Appends old new (lines_of p c.history)

-- with this fault of its opening a run is refused for that; with none it gives a result, or a refusal of a run
abbrev pub IsPlayed : {A : Type 0} → Option RefusalNumber → Result A Refusal → Type 0
IsPlayed (Some number) r = r ≡ Err (refused number)
IsPlayed None (Ok x) = Unit {0}
IsPlayed None (Err e) = IsRunFault e
