-- What a line has done: its answer went out, whole or not, or it has none; and what is reported of that.
use Rattle.std.specs.Prelude.{◌≡◌, ◌⊎◌, ◌+◌, ◌++◌, ℕ, List, [], Option, Bool, true, false, if◌then◌else◌, codes}
use Rattle.std.specs.Io.KnownBytes.{Appends}
use Rattle.rg_words.specs.declared.refusal.Refusal.{Refusal}
use Rattle.rg_words.specs.declared.refusal.RefusalNumber.{RefusalNumber}
use Rattle.rg_words.specs.declared.refusal.RefusalNumber.TheVariants.{Write, Memory}
use Rattle.rg_words.specs.Refusals.{refusal_text, refused}
use Rattle.rg_words.specs.Written.{AppendsBeginning}
use Rattle.rgc_answers.specs.Found.{reason_text}
use Rattle.rgc_answers.specs.Lines.{json_line}
use Rattle.rgc_answers.specs.Output.{Output}
use Rattle.rgc_answers.specs.Refusals.{refusal_data}
use Rattle.rgc_line.specs.declared.command.Format.{Format}
use Rattle.rgc_line.specs.declared.command.Format.TheVariants.{Plain, Json}
use Rattle.rgc_line.specs.declared.command.Settings.{Settings}
use Rattle.rgc_line.specs.declared.line.Line.{Line}
use Rattle.rgc_commands.specs.Answers.{IsAnswer, AreNotesOf, has_succeeded}
use Rattle.rgc_commands.specs.Delivered.{IsDelivered, IsCutOff}
use Rattle.rgc_commands.specs.Of.{AreGiven}
use Rattle.rgc_commands.specs.Put.{ArePut}
use Rattle.rgc_commands.specs.Stops.{IsStop, fits}
use Rattle.rgc_commands.specs.declared.answers.Answer.{Answer}
use Rattle.rgc_commands.specs.declared.answers.Answer.TheVariants.{Found, Run}
use Rattle.rgc_commands.specs.declared.files.Files.{Files}
use Rattle.rgc_commands.specs.declared.given.Given.{Given}
use Rattle.rgc_commands.specs.declared.sides.Sides.{Sides}
use Rattle.rgc_commands.specs.declared.stops.Stop.{Stop}
use Rattle.rgc_commands.specs.declared.stops.Stop.TheVariants.{Device, Refused, Unverified, Fault, Usage}

-- a beginning of a text went out, and then the writer failed, once more than before
abbrev pub WritesPart : Output → List ℕ → Type 0
WritesPart out text = AppendsBeginning out.before out.after text × (out.failed_after ≡ out.failed_before + 1)

-- a text went out; or a beginning of it, and then the writer failed
abbrev pub Writes : Output → List ℕ → Type 0
Writes out text = (Appends out.before out.after text × (out.failed_after ≡ out.failed_before)) ⊎ WritesPart out text

-- the refusals of writers that fail and of memory, which aren't of files
abbrev pub is_failure : RefusalNumber → Bool
is_failure Write = true
is_failure Memory = true
is_failure _ = false

-- the status of a refusal
abbrev pub refusal_status : RefusalNumber → ℕ
refusal_status number = if is_failure number then 3 else 1

-- the line that reports a refusal
abbrev pub reported_line : Format → Refusal → List ℕ
reported_line Plain e = refusal_text e ++ codes "\n"
reported_line Json e = json_line (refusal_data e)

-- what explains a refusal below its line: nothing, where that isn't asked, or where the refusal is reported as JSON
pub record IsBelow (settings : Settings) (text : List ℕ) : Type 0 where
  pub unasked : settings.is_explained ≡ false → text ≡ []
  pub as_json : settings.format ≡ Json → text ≡ []

-- a refusal is reported by its line, and has its own status; or there was no memory for the line, and that is reported
abbrev pub ReportsRefusal : Settings → Refusal → ℕ → Output → Type 0
ReportsRefusal settings e status faults =
    ((below : List ℕ) × IsBelow settings below × (status ≡ refusal_status e.number) × Writes faults (reported_line settings.format e ++ below))
    ⊎ ((status ≡ 3) × Writes faults (codes "refused 99\n"))

-- what is reported of an answer that went out, before its notes: why a search gave up; of a run the moves that were passed over, of which nothing is
-- promised
abbrev pub IsFirst : Answer → List ℕ → Type 0
IsFirst (Found condition judged) first = first ≡ reason_text judged
IsFirst (Run ready) first = Unit {0}
IsFirst answer first = first ≡ []

-- the status of an answer that went out: whether it is what the command is asked for
abbrev pub answer_status : Answer → ℕ
answer_status answer = if has_succeeded answer then 0 else 1

-- the answer went out, and what is noted of it is reported
pub record HasAnswered (status : ℕ) (line : Line) (files : Files) (out faults : Output) : Type 0 where
  pub answer : Answer
  pub fit : fits line.settings line.command ≡ true
  pub is : IsAnswer line.settings line.command files answer
  pub status_is : status ≡ answer_status answer
  pub delivered : IsDelivered line.settings.format answer out.before out.after
  pub failures : out.failed_after ≡ out.failed_before
  pub notes : List ℕ
  pub noted : AreNotesOf line.command notes
  pub first : List ℕ
  pub is_first : IsFirst answer first
  pub reported : Writes faults (first ++ notes)

-- the answer didn't go out whole, or a run of it isn't begun, and the refusal that says so is reported
pub record WasCutOff (status : ℕ) (line : Line) (files : Files) (out faults : Output) : Type 0 where
  pub answer : Answer
  pub fit : fits line.settings line.command ≡ true
  pub is : IsAnswer line.settings line.command files answer
  pub refusal : Refusal
  pub cut : IsCutOff answer out refusal
  pub reported : ReportsRefusal line.settings refusal status faults

-- nothing went out
abbrev pub IsUntouched : Output → Type 0
IsUntouched out = (out.after ≡ out.before) × (out.failed_after ≡ out.failed_before)

-- what is found of the conditions of an outline that isn't verified went out, and a text is reported; or the writer failed, and that is reported
abbrev pub IsUnverifiedReported : Settings → List ℕ → ℕ → Output → Output → Type 0
IsUnverifiedReported s report status out faults =
    ((status ≡ 1) × Appends out.before out.after report × (out.failed_after ≡ out.failed_before) × (notes : List ℕ) × Writes faults notes)
    ⊎ (WritesPart out report × ReportsRefusal s (refused Write) status faults)

-- what went out where a command has no answer, and what is reported
abbrev pub IsReported : Settings → Stop → ℕ → Output → Output → Type 0
IsReported s (Device line) status out faults = (status ≡ 3) × IsUntouched out × Writes faults line.now
IsReported s (Usage line) status out faults = (status ≡ 2) × IsUntouched out × Writes faults line.now
IsReported s (Fault lines) status out faults = (status ≡ 1) × IsUntouched out × Writes faults lines.items
IsReported s (Refused e) status out faults = IsUntouched out × ReportsRefusal s e status faults
IsReported s (Unverified report) status out faults = IsUnverifiedReported s report.items status out faults

-- the command has no answer, and why is reported
pub record HasNoAnswer (status : ℕ) (line : Line) (files : Files) (out faults : Output) : Type 0 where
  pub stop : Stop
  pub why : IsStop line.settings line.command files stop
  pub reported : IsReported line.settings stop status out faults

-- what a line has done, by its status
abbrev pub IsPerformed : ℕ → Line → Files → Output → Output → Type 0
IsPerformed status line files out faults =
    HasAnswered status line files out faults
    ⊎ WasCutOff status line files out faults
    ⊎ HasNoAnswer status line files out faults

-- the line is done: its answer is what it is asked for, is so of the files, and went out
pub record IsDone (line : Line) (files : Files) (old new : Option (List ℕ)) : Type 0 where
  pub answer : Answer
  pub fit : fits line.settings line.command ≡ true
  pub is : IsAnswer line.settings line.command files answer
  pub has : has_succeeded answer ≡ true
  pub delivered : IsDelivered line.settings.format answer old new

-- what a line has done over the files that it is given, the outline among them worked out once: what is done, what was put beside the output, and what is
-- reported are of this one expansion
pub record HasPerformed (status : ℕ) (line : Line) (given : Given) (before after : Sides) (out faults : Output) : Type 0 where
  pub files : Files
  pub are : AreGiven given files
  pub done : status ≡ 0 → IsDone line files out.before out.after
  pub sides : status ≡ 0 → ArePut line.command files before after
  pub performed : IsPerformed status line files out faults
