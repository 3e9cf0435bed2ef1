-- Why the outline of a command isn't there, or isn't proved.
use Rattle.std.proofs.Common.{◌≡◌, ◌∙◌, ℕ, List, [], ◌∷◌, Option, Some, None, Result, Bool, true, false, refl, inl, inr}
use Rattle.std.specs.Borrow.{Bor}
use Rattle.std.proofs.lemmas.List.{append-nil}
use Rattle.rg_words.specs.declared.refusal.Refusal.{Refusal}
use Rattle.rg_outline_reports.specs.declared.files.NoFiles.{NoFiles}
use Rattle.rg_outline_reports.specs.declared.files.OutlineFiles.{OutlineFiles}
use Rattle.rg_outline_reports.specs.declared.outlined.Outlined.{Outlined}
use Rattle.rg_parse.specs.Programs.{IsProgramRefusal}
use Rattle.rgc_outlines.specs.Refused.{IsVerifyRefusal}
use Rattle.rgc_line.specs.declared.command.Command.{Command}
use Rattle.rgc_line.specs.declared.command.Command.TheVariants.{Verify}
use Rattle.rgc_line.specs.declared.command.Outlines.{Outlines}
use Rattle.rgc_line.specs.declared.command.Settings.{Settings}
use Rattle.rgc_commands.specs.declared.files.Files.{Files}
use Rattle.rgc_commands.specs.declared.stops.Stop.{Stop}
use Rattle.rgc_commands.specs.declared.stops.Stop.TheVariants.{Device, Refused, Unverified, Fault, Usage}
use Rattle.rgc_commands.specs.Of.{IsReportedBy, IsRefusedOutline}
use Rattle.rgc_commands.specs.Stops.{IsStop, IsFault, unread_line, outline_line}
use Rattle.rgc_commands.specs.Inner.Stops.{IsDevice, IsFaultStop, IsNoOutline, IsOutlineStop, IsVerifiedStop}

-- the outline of a command isn't there: it can't be read, or stands for no files
pub unread_outline : (files : Files) (stop : Stop) → IsDevice (outline_line files None) stop → IsNoOutline files stop
unread_outline files (Device line) h = h
unread_outline files (Refused e) h = absurd h
unread_outline files (Unverified report) h = absurd h
unread_outline files (Fault lines) h = absurd h
unread_outline files (Usage line) h = absurd h

pub unexpanded_outline : (files : Files) (expanded : Bor (Result Outlined NoFiles)) (stop : Stop) → files.outline ≡ Some expanded → IsFaultStop (IsReportedBy expanded.now) stop → IsNoOutline files stop
unexpanded_outline files expanded (Device line) is h = absurd h
unexpanded_outline files expanded (Refused e) is h = h
unexpanded_outline files expanded (Unverified report) is h = absurd h
unexpanded_outline files expanded (Fault lines) is h = rw is h
unexpanded_outline files expanded (Usage line) is h = absurd h

pub no_outline : (files : Files) (Why : List ℕ → OutlineFiles → Type 0) (stop : Stop) → IsNoOutline files stop → IsOutlineStop files Why stop
no_outline files Why (Device line) h = h
no_outline files Why (Refused e) h = inr h
no_outline files Why (Unverified report) h = absurd h
no_outline files Why (Fault lines) h = inl h
no_outline files Why (Usage line) h = absurd h

pub no_outline_verified : (outlines : Outlines) (text : Option (Bor (List ℕ))) (files : Files) (stop : Stop) → IsNoOutline files stop → IsVerifiedStop outlines text files stop
no_outline_verified outlines text files (Device line) h = h
no_outline_verified outlines text files (Refused e) h = h
no_outline_verified outlines text files (Unverified report) h = absurd h
no_outline_verified outlines text files (Fault lines) h = h
no_outline_verified outlines text files (Usage line) h = absurd h

pub verified_stop : (s : Settings) (outlines : Outlines) (steps : Option ℕ) (is_runs_only : Bool) (text : Option (Bor (List ℕ))) (files : Files) (stop : Stop) → IsVerifiedStop outlines text files stop → IsStop s (Verify outlines steps is_runs_only text) files stop
verified_stop s outlines steps is_runs_only text files (Device line) h = h
verified_stop s outlines steps is_runs_only text files (Refused e) h = inr h
verified_stop s outlines steps is_runs_only text files (Unverified report) h = absurd h
verified_stop s outlines steps false text files (Fault lines) h = inl h
verified_stop s outlines steps true text files (Fault lines) h = h
verified_stop s outlines steps is_runs_only (Some text) files (Usage line) h = inr h
verified_stop s outlines steps is_runs_only None files (Usage line) h = absurd h

-- the outline of a command that looks at nothing else first
pub no_outline_stop : (s : Settings) (of : Command) (files : Files) (stop : Stop) → unread_line of files ≡ outline_line files None → ((lines : List ℕ) → IsRefusedOutline files.outline lines → IsFault s of files lines) → IsNoOutline files stop → IsStop s of files stop
no_outline_stop s of files (Device line) reads faulty h = reads ∙ h
no_outline_stop s of files (Refused e) reads faulty h = inr h
no_outline_stop s of files (Unverified report) reads faulty h = absurd h
no_outline_stop s of files (Fault lines) reads faulty h = faulty lines.items h
no_outline_stop s of files (Usage line) reads faulty h = absurd h

-- its text was refused when its program's runs were followed
pub walk_refusal : (outline : OutlineFiles) (steps : ℕ) (e : Refusal) → IsProgramRefusal outline.text.items e → IsVerifyRefusal outline steps e
walk_refusal outline steps e h = inl (inr (outline.derivation.items ∷ [], record { joined = append-nil outline.derivation.items; alone = λ short. refl }, inl h))
