-- What goes out of an answer.
use Rattle.std.specs.Prelude.{◌≡◌, ◌++◌, ℕ, List, Option, Some, None}
use Rattle.std.specs.Io.KnownBytes.{Appends}
use Rattle.rg_words.specs.declared.refusal.Refusal.{Refusal}
use Rattle.rg_words.specs.Stopped.{IsFailure}
use Rattle.rg_tree.specs.Statements.{ProgramTree}
use Rattle.rg_clauses.specs.Cnf.{cnf_text}
use Rattle.rg_floor.specs.Turns.{ClosedView}
use Rattle.rg_monitor.specs.Lines.{lines_of}
use Rattle.rgc_answers.specs.Output.{Output}
use Rattle.rgc_answers.specs.Records.{run_text}
use Rattle.rgc_answers.specs.Refused.{IsUnbegun, IsRunStopped}
use Rattle.rgc_answers.specs.Running.{IsRunLeft, why_text}
use Rattle.rgc_line.specs.declared.command.Format.{Format}
use Rattle.rgc_line.specs.declared.command.Format.TheVariants.{Plain, Json}
use Rattle.rgc_outlines.specs.Reported.{NamingView, reported_lines}
use Rattle.rgc_commands.specs.declared.answers.Answer.{Answer}
use Rattle.rgc_commands.specs.declared.answers.Answer.TheVariants.{Clauses, Run}
use Rattle.rgc_commands.specs.declared.code.Ready.{Ready}
use Rattle.rgc_commands.specs.Code.{coded_program, coded_blocks}
use Rattle.rgc_commands.specs.Texts.{answer_text}

-- the text of what a run left: in the words of the outline that names what its records speak of, where there is one
abbrev pub left_text : Format → Option NamingView → ProgramTree → ClosedView → List ℕ
left_text format (Some naming) program closed = reported_lines naming program closed.history ++ why_text closed.why
left_text Plain None program closed = lines_of program closed.history ++ why_text closed.why
left_text Json None program closed = run_text program closed

-- code that is ready was run so, and what the run did went out
pub record HasRun (format : Format) (ready : Ready) (old new : Option (List ℕ)) : Type 0 where
  pub closed : ClosedView
  pub left : IsRunLeft (coded_program ready.code) (coded_blocks ready.code) ready.run closed
  pub printed : Appends old new (left_text format ready.naming (coded_program ready.code) closed)

-- an answer went out in a format
abbrev pub IsDelivered : Format → Answer → Option (List ℕ) → Option (List ℕ) → Type 0
IsDelivered format (Clauses clauses) old new = Appends old new (cnf_text clauses)
IsDelivered format (Run ready) old new = HasRun format ready old new
IsDelivered format answer old new = Appends old new (answer_text format answer)

-- it didn't: the writer failed or memory was refused; or a run isn't begun, and nothing went out, or it is unlike what it printed
abbrev pub IsCutOff : Answer → Output → Refusal → Type 0
IsCutOff (Run ready) out e = IsRunStopped (IsUnbegun (coded_program ready.code) ready.run) out e
IsCutOff answer out e = IsFailure out.failed_before out.failed_after e
