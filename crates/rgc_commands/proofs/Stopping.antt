-- Why a command has no answer, from why a part of it isn't there.
use Rattle.std.proofs.Common.{◌≡◌, ◌∙◌, ℕ, List, Option, Some, None, Result, Bool, true, false, ap, refl, subst, inl, inr}
use Rattle.std.specs.Prelude.{if◌then◌else◌, ◌⊎◌}
use Rattle.std.specs.Borrow.{Bor}
use Rattle.rg_words.specs.Refusals.{no_memory}
use Rattle.rg_outline_reports.specs.declared.files.NoFiles.{NoFiles}
use Rattle.rg_outline_reports.specs.declared.files.OutlineFiles.{OutlineFiles}
use Rattle.rg_outline_reports.specs.declared.outlined.Outlined.{Outlined}
use Rattle.rg_tree.specs.Lines.{LineTree}
use Rattle.rg_tree.specs.Statements.{ProgramTree}
use Rattle.rgc_outlines.specs.Proved.{IsProvedOutline}
use Rattle.rgc_outlines.specs.Refused.{IsVerifyRefusal}
use Rattle.rgc_line.specs.declared.command.Chosen.{Chosen}
use Rattle.rgc_line.specs.declared.command.Command.{Command}
use Rattle.rgc_line.specs.declared.command.Command.TheVariants.{Clauses, Emit, EmitOutline, Accesses, AccessesOutline, Run, RunOutline, Verify}
use Rattle.rgc_line.specs.declared.command.Outlines.{Outlines}
use Rattle.rgc_line.specs.declared.command.Settings.{Settings}
use Rattle.rgc_commands.specs.declared.files.Files.{Files}
use Rattle.rgc_commands.specs.declared.outlines.TheConstants.{MOST_STEPS}
use Rattle.rgc_commands.specs.declared.stops.Stop.{Stop}
use Rattle.rgc_commands.specs.declared.stops.Stop.TheVariants.{Device, Refused, Unverified, Fault, Usage}
use Rattle.rgc_commands.specs.Of.{outline_files, Pieces, OfOutline, IsRefusedOutline}
use Rattle.rgc_commands.specs.Code.{Shown, listing, header, is_in_c, title_of, IsCodeForm}
use Rattle.rgc_commands.specs.Stops.{IsStop, LacksCodeOfFiles, LacksCodeOfOutline, LacksMore, search_steps, unread_line, unless_read, text_line, derivation_line, proofs_line}
use Rattle.rgc_commands.specs.Inner.Stops.{IsDevice, IsFaultStop, IsFormStop, IsNoOutline, IsFilesStop, IsProofStop, IsOutlineStop, NoFault}

-- a file can't be read
pub device_stop : (s : Settings) (of : Command) (files : Files) (stop : Stop) → IsDevice (unread_line of files) stop → IsStop s of files stop
device_stop s of files (Device line) h = h
device_stop s of files (Refused e) h = absurd h
device_stop s of files (Unverified report) h = absurd h
device_stop s of files (Fault lines) h = absurd h
device_stop s of files (Usage line) h = absurd h

-- the next file can't be read, where this one can
pub read_past : {A : Type 0} (file : Option A) (bytes : A) (line : List ℕ) (rest : Option (List ℕ)) (stop : Stop) → file ≡ Some bytes → IsDevice rest stop → IsDevice (unless_read file line rest) stop
read_past file bytes line rest stop is h = rw is h

-- the text of a formula or of a condition can't be read
pub chosen_device : (s : Settings) (t : Bor (List ℕ)) (chosen : Option Chosen) (files : Files) (stop : Stop) → ((rest : Option (List ℕ)) → IsDevice (text_line files rest) stop) → IsStop s (Clauses t chosen) files stop
chosen_device s t None files stop h = device_stop s (Clauses t None) files stop (h None)
chosen_device s t (Some chosen) files stop h = device_stop s (Clauses t (Some chosen)) files stop (h (derivation_line files None))

-- no code of files is had: of a command that prints it, or how its steps are done
pub emit_stop : (s : Settings) (t d p : Bor (List ℕ)) (files : Files) (in_c : Bool) (stop : Stop) → in_c ≡ s.is_c → IsFilesStop s in_c files stop → IsStop s (Emit t d p) files stop
emit_stop s t d p files in_c (Device line) is h = h
emit_stop s t d p files in_c (Refused e) is h = h
emit_stop s t d p files in_c (Unverified report) is h = absurd h
emit_stop s t d p files in_c (Fault lines) is h = subst (λ (b : Bool). LacksCodeOfFiles s b files lines.items) is h
emit_stop s t d p files in_c (Usage line) is h = absurd h

pub accesses_stop : (s : Settings) (t d p : Bor (List ℕ)) (files : Files) (stop : Stop) → IsFilesStop s true files stop → IsStop s (Accesses t d p) files stop
accesses_stop s t d p files (Device line) h = h
accesses_stop s t d p files (Refused e) h = h
accesses_stop s t d p files (Unverified report) h = absurd h
accesses_stop s t d p files (Fault lines) h = h
accesses_stop s t d p files (Usage line) h = absurd h

-- or of one that runs it, whose files can be read
pub run_stop : (s : Settings) (t d p : Bor (List ℕ)) (start moves : Option (Bor (List ℕ))) (limit : ℕ) (draw : Option (Bor (List ℕ))) (files : Files) (text : Bor (List ℕ)) (derivation proofs : Pieces) (stop : Stop)
    → files.text ≡ Some text → files.derivation ≡ Some derivation → files.proofs ≡ Some proofs → IsFilesStop s false files stop → IsStop s (Run t d p start moves limit draw) files stop
run_stop s t d p start moves limit draw files text derivation proofs (Device line) a b c h = absurd (cc (rw (a, b, c) at h))
run_stop s t d p start moves limit draw files text derivation proofs (Refused e) a b c h = h
run_stop s t d p start moves limit draw files text derivation proofs (Unverified report) a b c h = absurd h
run_stop s t d p start moves limit draw files text derivation proofs (Fault lines) a b c h = h
run_stop s t d p start moves limit draw files text derivation proofs (Usage line) a b c h = absurd h

-- the form of the code that is asked for doesn't fit
pub form_stop : (s : Settings) (t d p : Bor (List ℕ)) (files : Files) (stop : Stop) → IsFormStop stop → IsStop s (Emit t d p) files stop
form_stop s t d p files (Device line) h = absurd h
form_stop s t d p files (Refused e) h = inr h
form_stop s t d p files (Unverified report) h = absurd h
form_stop s t d p files (Fault lines) h = absurd h
form_stop s t d p files (Usage line) h = inr tt

pub outline_form_stop : (s : Settings) (o : Bor (List ℕ)) (files : Files) (stop : Stop) → IsFormStop stop → IsStop s (EmitOutline o) files stop
outline_form_stop s o files (Device line) h = absurd h
outline_form_stop s o files (Refused e) h = inr h
outline_form_stop s o files (Unverified report) h = absurd h
outline_form_stop s o files (Fault lines) h = absurd h
outline_form_stop s o files (Usage line) h = inr tt

-- the form says how steps are done in C exactly where C is asked for
pub in_c_as_asked : (s : Settings) (form : Shown) → IsCodeForm s form → is_in_c form ≡ s.is_c
in_c_as_asked s form h = ap is_in_c h.is ∙ of s.is_c
  where
    of : (b : Bool) → is_in_c (if b then header (title_of s.prefix) s.is_traced else listing) ≡ b
    of true = refl
    of false = refl

-- a part of the code of files isn't had: for this reason
pub code_stop : (s : Settings) (in_c : Bool) (files : Files) (Why : List ℕ → Type 0) (stop : Stop) → ((lines : List ℕ) → Why lines → LacksCodeOfFiles s in_c files lines) → IsFaultStop Why stop → IsFilesStop s in_c files stop
code_stop s in_c files Why (Device line) lacks h = absurd h
code_stop s in_c files Why (Refused e) lacks h = inr h
code_stop s in_c files Why (Unverified report) lacks h = absurd h
code_stop s in_c files Why (Fault lines) lacks h = lacks lines.items h
code_stop s in_c files Why (Usage line) lacks h = absurd h

-- an outline of a command isn't proved, or its code isn't had
pub proof_stop : (files : Files) (outline : OutlineFiles) (Why : List ℕ → OutlineFiles → Type 0) (stop : Stop) → outline_files files.outline ≡ Some outline → IsProofStop outline MOST_STEPS (λ lines. Why lines outline) stop → IsOutlineStop files Why stop
proof_stop files outline Why (Device line) is h = absurd h
proof_stop files outline Why (Refused e) is h = inl (rw is h)
proof_stop files outline Why (Unverified report) is h = rw is h
proof_stop files outline Why (Fault lines) is h = inr (rw is h)
proof_stop files outline Why (Usage line) is h = absurd h

-- a fault of which more is known
pub fault_stop_more : (Less More : List ℕ → Type 0) (stop : Stop) → ((lines : List ℕ) → Less lines → More lines) → IsFaultStop Less stop → IsFaultStop More stop
fault_stop_more Less More (Device line) more h = h
fault_stop_more Less More (Refused e) more h = h
fault_stop_more Less More (Unverified report) more h = h
fault_stop_more Less More (Fault lines) more h = more lines.items h
fault_stop_more Less More (Usage line) more h = h

pub proof_stop_more : (outline : OutlineFiles) (steps : ℕ) (Less More : List ℕ → Type 0) (stop : Stop) → ((lines : List ℕ) → Less lines → More lines) → IsProofStop outline steps Less stop → IsProofStop outline steps More stop
proof_stop_more outline steps Less More (Device line) more h = h
proof_stop_more outline steps Less More (Refused e) more h = h
proof_stop_more outline steps Less More (Unverified report) more h = h
proof_stop_more outline steps Less More (Fault lines) more h = more lines.items h
proof_stop_more outline steps Less More (Usage line) more h = h

-- no code of an outline is had: of a command that prints it, or how its steps are done, or of one that runs it, whose files can be read
pub emit_outline_stop : (s : Settings) (o : Bor (List ℕ)) (files : Files) (in_c : Bool) (stop : Stop) → in_c ≡ s.is_c → IsOutlineStop files (LacksCodeOfOutline s in_c) stop → IsStop s (EmitOutline o) files stop
emit_outline_stop s o files in_c (Device line) is h = h
emit_outline_stop s o files in_c (Refused e) is h = h
emit_outline_stop s o files in_c (Unverified report) is h = (tt, h)
emit_outline_stop s o files in_c (Fault lines) is h = subst (λ (b : Bool). IsRefusedOutline files.outline lines.items ⊎ OfOutline files (LacksCodeOfOutline s b lines.items)) is h
emit_outline_stop s o files in_c (Usage line) is h = absurd h

pub accesses_outline_stop : (s : Settings) (o : Bor (List ℕ)) (files : Files) (stop : Stop) → IsOutlineStop files (LacksCodeOfOutline s true) stop → IsStop s (AccessesOutline o) files stop
accesses_outline_stop s o files (Device line) h = h
accesses_outline_stop s o files (Refused e) h = h
accesses_outline_stop s o files (Unverified report) h = (tt, h)
accesses_outline_stop s o files (Fault lines) h = h
accesses_outline_stop s o files (Usage line) h = absurd h

pub verify_stop : (s : Settings) (outlines : Outlines) (steps : Option ℕ) (text : Option (Bor (List ℕ))) (files : Files) (outline : OutlineFiles) (stop : Stop)
    → outline_files files.outline ≡ Some outline → IsProofStop outline (search_steps steps) (LacksMore s outline) stop → IsStop s (Verify outlines steps false text) files stop
verify_stop s outlines steps text files outline (Device line) is h = absurd h
verify_stop s outlines steps text files outline (Refused e) is h = inl (rw is h)
verify_stop s outlines steps text files outline (Unverified report) is h = (refl, rw is h)
verify_stop s outlines steps text files outline (Fault lines) is h = inr (rw is h)
verify_stop s outlines steps text files outline (Usage line) is h = absurd h

-- the first of three files can't be read
pub files_stop : (s : Settings) (in_c : Bool) (files : Files) (stop : Stop) → IsDevice (text_line files (derivation_line files (proofs_line files None))) stop → IsFilesStop s in_c files stop
files_stop s in_c files (Device line) h = h
files_stop s in_c files (Refused e) h = absurd h
files_stop s in_c files (Unverified report) h = absurd h
files_stop s in_c files (Fault lines) h = absurd h
files_stop s in_c files (Usage line) h = absurd h

-- memory was refused for a part of an outline that is proved
pub no_memory_verify : (outline : OutlineFiles) (steps : ℕ) {program : ProgramTree} {lines : List LineTree} {proofs : List (List ℕ)} → IsProvedOutline outline program lines proofs → IsVerifyRefusal outline steps no_memory
no_memory_verify outline steps o = inr (_, _, o.derived, inl refl)

-- its code isn't had: for this reason
pub proof_code_stop : (outline : OutlineFiles) (steps : ℕ) (Why Lacks : List ℕ → Type 0) {program : ProgramTree} {lines : List LineTree} {proofs : List (List ℕ)} → IsProvedOutline outline program lines proofs → ((lines : List ℕ) → Why lines → Lacks lines) → (stop : Stop) → IsFaultStop Why stop → IsProofStop outline steps Lacks stop
proof_code_stop outline steps Why Lacks o lacks (Device line) h = absurd h
proof_code_stop outline steps Why Lacks o lacks (Refused e) h = rw h (no_memory_verify outline steps o)
proof_code_stop outline steps Why Lacks o lacks (Unverified report) h = absurd h
proof_code_stop outline steps Why Lacks o lacks (Fault lines) h = lacks lines.items h
proof_code_stop outline steps Why Lacks o lacks (Usage line) h = absurd h

-- an outline that can be read isn't had
pub run_outline_stop : (s : Settings) (o : Bor (List ℕ)) (start moves : Option (Bor (List ℕ))) (limit : ℕ) (draw : Option (Bor (List ℕ))) (files : Files) (e : Bor (Result Outlined NoFiles)) (stop : Stop)
    → files.outline ≡ Some e → IsNoOutline files stop → IsStop s (RunOutline o start moves limit draw) files stop
run_outline_stop s o start moves limit draw files e (Device line) is h = absurd (cc (rw is at h))
run_outline_stop s o start moves limit draw files e (Refused r) is h = inr h
run_outline_stop s o start moves limit draw files e (Unverified report) is h = absurd h
run_outline_stop s o start moves limit draw files e (Fault lines) is h = h
run_outline_stop s o start moves limit draw files e (Usage line) is h = absurd h

pub run_proof_stop : (s : Settings) (o : Bor (List ℕ)) (start moves : Option (Bor (List ℕ))) (limit : ℕ) (draw : Option (Bor (List ℕ))) (files : Files) (outline : OutlineFiles) (stop : Stop)
    → outline_files files.outline ≡ Some outline → IsProofStop outline MOST_STEPS NoFault stop → IsStop s (RunOutline o start moves limit draw) files stop
run_proof_stop s o start moves limit draw files outline (Device line) is h = absurd h
run_proof_stop s o start moves limit draw files outline (Refused r) is h = inl (rw is h)
run_proof_stop s o start moves limit draw files outline (Unverified report) is h = (tt, rw is h)
run_proof_stop s o start moves limit draw files outline (Fault lines) is h = absurd h
run_proof_stop s o start moves limit draw files outline (Usage line) is h = absurd h
