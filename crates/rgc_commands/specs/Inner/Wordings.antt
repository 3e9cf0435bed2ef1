-- How a run is reported.
use Rattle.std.specs.Prelude.{◌≡◌, ℕ, List, [], ◌++◌, Option, Some, None}
use Rattle.std.specs.Io.KnownBytes.{Appends}
use Rattle.rg_tree.specs.Statements.{ProgramTree}
use Rattle.rg_code.specs.Code.{BlockTree}
use Rattle.rg_floor.specs.Turns.{ClosedView}
use Rattle.rg_monitor.specs.Lines.{lines_of}
use Rattle.rgc_answers.specs.Records.{run_text}
use Rattle.rgc_answers.specs.Running.{IsRunLeft, why_text}
use Rattle.rgc_answers.specs.declared.running.Run.{Run}
use Rattle.rgc_line.specs.declared.command.Format.{Format}
use Rattle.rgc_line.specs.declared.command.Format.TheVariants.{Plain as plain, Json as json}
use Rattle.rgc_outlines.specs.Reported.{NamingView, reported_lines}
use Rattle.rgc_commands.specs.declared.runs.Wording.{Wording}
use Rattle.rgc_commands.specs.declared.runs.Wording.TheVariants.{Plain, Json, Named}

-- what goes out as its steps are made
abbrev pub live_text : Wording → ProgramTree → ClosedView → List ℕ
live_text Plain program closed = lines_of program closed.history
live_text Json program closed = []
live_text (Named naming) program closed = []

-- what goes out after them
abbrev pub rest_text : Wording → ProgramTree → ClosedView → List ℕ
rest_text Plain program closed = why_text closed.why
rest_text Json program closed = run_text program closed
rest_text (Named naming) program closed = reported_lines naming.now program closed.history ++ why_text closed.why

-- code was run so, and what the run did went out in this wording
pub record HasPlayed (wording : Wording) (program : ProgramTree) (blocks : List (List BlockTree)) (run : Run) (old new : Option (List ℕ)) : Type 0 where
  pub closed : ClosedView
  pub left : IsRunLeft program blocks run closed
  pub printed : Appends old new (live_text wording program closed ++ rest_text wording program closed)

-- the wording of a run: in the words of an outline that names what it speaks of, where there is one; else in a format
abbrev pub IsWording : Format → Option NamingView → Wording → Type 0
IsWording format (Some naming) (Named view) = view.now ≡ naming
IsWording plain None Plain = Unit {0}
IsWording json None Json = Unit {0}
IsWording format naming wording = ⊥
