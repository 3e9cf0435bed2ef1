-- Why a run of a program is refused, and what went out until then.
use Rattle.std.specs.Prelude.{◌≡◌, ◌⊎◌, ℕ, List, Option, Some, None}
use Rattle.std.specs.Borrow.{Bor}
use Rattle.rg_words.specs.declared.refusal.Refusal.{Refusal}
use Rattle.rg_words.specs.declared.refusal.RefusalNumber.{RefusalNumber}
use Rattle.rg_words.specs.declared.refusal.RefusalNumber.TheVariants.{Mismatch, StartOutsidePre, Stranger}
use Rattle.rg_words.specs.declared.refusal.SourceFile.TheVariants.{Start}
use Rattle.rg_words.specs.Layout.{Word}
use Rattle.rg_words.specs.Refusals.{refused, refused_at}
use Rattle.rg_words.specs.Stopped.{IsStopped}
use Rattle.rg_tree.specs.Moves.{MoveTree}
use Rattle.rg_tree.specs.Statements.{ProgramTree}
use Rattle.rg_tree.specs.Traces.{State}
use Rattle.rg_parse.specs.Inputs.{IsStartRefusal, IsMovesRefusal}
use Rattle.rg_floor.specs.Turns.{open_fault}
use Rattle.rgc_answers.specs.Output.{Output}
use Rattle.rgc_answers.specs.Running.{StartsAt, AreTheMoves}
use Rattle.rgc_answers.specs.declared.running.Run.{Run}

-- the first fault of the bytes of a start, where there are any
abbrev pub IsUnreadStart : List Word → Option (Bor (List ℕ)) → Refusal → Type 0
IsUnreadStart words None e = ⊥
IsUnreadStart words (Some bytes) e = IsStartRefusal words bytes.now e

-- that of moves
abbrev pub AreUnreadMoves : List Word → Option (Bor (List ℕ)) → Refusal → Type 0
AreUnreadMoves words None e = ⊥
AreUnreadMoves words (Some bytes) e = IsMovesRefusal words bytes.now e

-- a fault of a run's opening: a start outside the pre has its first line as its place
abbrev pub opening_refusal : RefusalNumber → Refusal
opening_refusal StartOutsidePre = refused_at StartOutsidePre Start 1
opening_refusal number = refused number

-- there are such a start and such moves, and a run with them isn't opened
pub record IsUnopened (program : ProgramTree) (run : Run) (e : Refusal) : Type 0 where
  pub first : State
  pub starts : StartsAt program.words run.start first
  pub moving : List MoveTree
  pub moved : AreTheMoves program.words run.moves moving
  pub fault : RefusalNumber
  pub is : open_fault program first run.limit ≡ Some fault
  pub refusal : e ≡ opening_refusal fault

-- why a run isn't begun: the first fault of the start; then that of the moves; then too many steps are asked for; then the start isn't in the pre
abbrev pub IsUnbegun : ProgramTree → Run → Refusal → Type 0
IsUnbegun program run e =
    IsUnreadStart program.words run.start e
    ⊎ ((first : State) × StartsAt program.words run.start first × AreUnreadMoves program.words run.moves e)
    ⊎ IsUnopened program run e

-- what a run left isn't as it was printed, or a record came twice: each run is looked at after its end, and none has been seen to be so
abbrev pub IsUnlike : Refusal → Type 0
IsUnlike e = (e ≡ refused Mismatch) ⊎ (e ≡ refused Stranger)

-- a run stopped: nothing went out, since it is refused so; or what it printed was cut by the writer or by want of memory; or it was unlike what it printed
abbrev pub IsRunStopped : (Refusal → Type 0) → Output → Refusal → Type 0
IsRunStopped Refused out e = IsStopped Refused out.before out.after out.failed_before out.failed_after e ⊎ (IsUnlike e × (out.failed_after ≡ out.failed_before))
