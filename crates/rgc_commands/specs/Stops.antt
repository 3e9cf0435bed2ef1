-- Why a command has no answer.
use Rattle.std.specs.Prelude.{◌≡◌, ◌⊎◌, ℕ, List, [], Option, Some, None, Bool, true, false, ◌||◌, ◌&&◌, not, if◌then◌else◌, is_some, codes}
use Rattle.std.specs.List.{concat}
use Rattle.std.specs.Borrow.{Bor}
use Rattle.rg_words.specs.declared.refusal.Refusal.{Refusal}
use Rattle.rg_words.specs.Refusals.{no_memory}
use Rattle.rg_outline_reports.specs.declared.files.OutlineFiles.{OutlineFiles}
use Rattle.rg_parse.specs.Programs.{IsProgramRefusal}
use Rattle.rgc.specs.Pieces.{IsDeriveRefusal, IsAcceptInPiecesRefusal, IsBuiltInPieces}
use Rattle.rgc.specs.Chosen.{IsChosenClausesRefusal, IsChosenFindRefusal}
use Rattle.rgc.specs.Proofs.{IsProveRefusal, IsProvePartRefusal}
use Rattle.rgc.specs.Valid.{IsClausesRefusal, IsFindRefusal, IsValidRefusal}
use Rattle.rgc.specs.declared.proofs_found.Unproved.{Unproved}
use Rattle.rgc_line.specs.declared.command.Command.{Command}
use Rattle.rgc_line.specs.declared.command.Command.TheVariants.{Number, Check, Conditions, Prove, Emit, EmitOutline, Accesses, AccessesOutline, Run, RunOutline, Valid, Clauses, Find, Outline, Verify, Complete, Challenge, Explain}
use Rattle.rgc_line.specs.declared.command.Settings.{Settings}
use Rattle.rgc_outlines.specs.Built.{IsBuiltOutline}
use Rattle.rgc_outlines.specs.Refused.{IsVerifyRefusal, IsExpandRefusal}
use Rattle.rgc_outlines.specs.Unproved.{AreUnprovedOf}
use Rattle.rgc_commands.specs.Answers.{SpellsRange, IsVerified, auxiliary_of}
use Rattle.rgc_commands.specs.Code.{is_plain}
use Rattle.rgc_commands.specs.Left.{LacksCode}
use Rattle.rgc_commands.specs.Priority.{said, priority_for}
use Rattle.rgc_commands.specs.Of.{OfText, OfPieces, OfTwo, OfThree, OfOutline, IsRefusedOutline}
use Rattle.rgc_commands.specs.declared.files.Files.{Files}
use Rattle.rgc_commands.specs.declared.outlines.TheConstants.{MOST_STEPS}
use Rattle.rgc_commands.specs.declared.stops.Stop.{Stop}
use Rattle.rgc_commands.specs.declared.stops.Stop.TheVariants.{Device, Refused, Unverified, Fault, Usage}

-- the line that tells that there are no bytes of a file, where there are none; else what is reported of the rest
abbrev pub unless_read : {A : Type 0} → Option A → List ℕ → Option (List ℕ) → Option (List ℕ)
unless_read None line rest = Some line
unless_read (Some bytes) line rest = rest

-- the same of a file that need not be named
abbrev pub where_named : {A : Type 0} → Option A → Option (Bor (List ℕ)) → List ℕ → Option (List ℕ) → Option (List ℕ)
where_named None bytes line rest = rest
where_named (Some name) bytes line rest = unless_read bytes line rest

-- the line that tells of a file of each kind
abbrev pub text_line : Files → Option (List ℕ) → Option (List ℕ)
text_line files rest = unless_read files.text (codes "device text\n") rest

abbrev pub outline_line : Files → Option (List ℕ) → Option (List ℕ)
outline_line files rest = unless_read files.outline (codes "device outline\n") rest

abbrev pub derivation_line : Files → Option (List ℕ) → Option (List ℕ)
derivation_line files rest = unless_read files.derivation (codes "device derivation\n") rest

abbrev pub proofs_line : Files → Option (List ℕ) → Option (List ℕ)
proofs_line files rest = unless_read files.proofs (codes "device proofs\n") rest

abbrev pub input_lines : {A : Type 0} → Option A → Option A → Files → Option (List ℕ)
input_lines start moves files = where_named start files.start (codes "device start\n") (where_named moves files.moves (codes "device moves\n") None)

-- the line that tells of the first file that a command names and that can't be read; none where all can
abbrev pub unread_line : Command → Files → Option (List ℕ)
unread_line (Number _) files = text_line files None
unread_line (Check _ _ _) files = text_line files (derivation_line files (proofs_line files None))
unread_line (Conditions _ _ _) files = text_line files (derivation_line files None)
unread_line (Prove _ _ _ _) files = text_line files (derivation_line files None)
unread_line (Emit _ _ _) files = text_line files (derivation_line files (proofs_line files None))
unread_line (Run _ _ _ start moves _ _) files = text_line files (derivation_line files (proofs_line files (input_lines start moves files)))
unread_line (EmitOutline _) files = outline_line files None
unread_line (Accesses _ _ _) files = text_line files (derivation_line files (proofs_line files None))
unread_line (AccessesOutline _) files = outline_line files None
unread_line (RunOutline _ start moves _ _) files = outline_line files (input_lines start moves files)
unread_line (Valid _ _) files = text_line files (proofs_line files None)
unread_line (Clauses _ None) files = text_line files None
unread_line (Clauses _ (Some _)) files = text_line files (derivation_line files None)
unread_line (Find _ _ None) files = text_line files None
unread_line (Find _ _ (Some _)) files = text_line files (derivation_line files None)
unread_line (Outline _ _ _ _ _ _) files = outline_line files None
unread_line (Verify _ _ _ _) files = outline_line files None
unread_line (Complete _ _ _ _) files = outline_line files None
unread_line (Challenge _ _) files = outline_line files None
unread_line (Explain _) files = None

-- the most decisions of each search, where a command says so or not
abbrev pub search_steps : Option ℕ → ℕ
search_steps None = MOST_STEPS
search_steps (Some steps) = steps

-- why a search for proofs of all conditions is refused, or of the range that the word names
abbrev pub RefusesProofs : Option (Bor (List ℕ)) → ℕ → Refusal → List ℕ → List (List ℕ) → Type 0
RefusesProofs None steps e text derivation = IsProveRefusal text derivation steps e
RefusesProofs (Some range) steps e text derivation = (first last : ℕ) × SpellsRange range.now first last × IsProvePartRefusal text derivation first last steps e

-- the files of a command are refused so
abbrev pub AreFilesRefused : Command → Files → Refusal → Type 0
AreFilesRefused (Number _) files e = OfText files.text (λ text. IsProgramRefusal text e)
AreFilesRefused (Check _ _ _) files e = OfThree files (λ text derivation proofs. IsAcceptInPiecesRefusal text derivation proofs e)
AreFilesRefused (Conditions _ _ _) files e = OfTwo files (λ text derivation. IsDeriveRefusal text derivation e)
AreFilesRefused (Prove _ _ steps range) files e = OfTwo files (RefusesProofs range steps e)
AreFilesRefused (Emit _ _ _) files e = OfThree files (λ text derivation proofs. IsAcceptInPiecesRefusal text derivation proofs e)
AreFilesRefused (Accesses _ _ _) files e = OfThree files (λ text derivation proofs. IsAcceptInPiecesRefusal text derivation proofs e)
AreFilesRefused (Run _ _ _ _ _ _ _) files e = OfThree files (λ text derivation proofs. IsAcceptInPiecesRefusal text derivation proofs e)
AreFilesRefused (Valid _ _) files e = OfText files.text (λ text. OfPieces files.proofs (λ proofs. IsValidRefusal text (concat proofs) e))
AreFilesRefused (Clauses _ None) files e = OfText files.text (λ text. IsClausesRefusal text e)
AreFilesRefused (Clauses _ (Some chosen)) files e = OfTwo files (λ text derivation. IsChosenClausesRefusal text derivation chosen.condition e)
AreFilesRefused (Find _ steps None) files e = OfText files.text (λ text. IsFindRefusal text steps e)
AreFilesRefused (Find _ steps (Some chosen)) files e = OfTwo files (λ text derivation. IsChosenFindRefusal text derivation chosen.condition steps e)
AreFilesRefused (EmitOutline _) files e = OfOutline files (λ outline. IsVerifyRefusal outline MOST_STEPS e)
AreFilesRefused (AccessesOutline _) files e = OfOutline files (λ outline. IsVerifyRefusal outline MOST_STEPS e)
AreFilesRefused (RunOutline _ _ _ _ _) files e = OfOutline files (λ outline. IsVerifyRefusal outline MOST_STEPS e)
AreFilesRefused (Outline _ steps _ _ proofs _) files e = OfOutline files (λ outline. IsExpandRefusal (is_some proofs) outline (search_steps steps) e)
AreFilesRefused (Verify _ steps false _) files e = OfOutline files (λ outline. IsVerifyRefusal outline (search_steps steps) e)
AreFilesRefused (Verify _ steps true _) files e = OfOutline files (λ outline. IsProgramRefusal outline.text.items e)
AreFilesRefused (Complete _ _ _ _) files e = ⊥
-- (where an outline is verified, a changed program may be refused)
AreFilesRefused (Challenge _ _) files e = OfOutline files (λ outline. IsVerifyRefusal outline MOST_STEPS e ⊎ ((conditions : ℕ) × IsVerified conditions outline))
AreFilesRefused (Explain _) files e = ⊥

-- the code of files isn't had, or that of an outline, as settings ask for it; what is reported of a line names that of the text, or the one that it has in the outline
abbrev pub LacksCodeOfFiles : Settings → Bool → Files → List ℕ → Type 0
LacksCodeOfFiles s in_c files lines = OfThree files (λ text derivation proofs. LacksCode (IsBuiltInPieces text derivation proofs) s.erase [] (said s.priority) in_c [] lines)

abbrev pub LacksCodeOfOutline : Settings → Bool → List ℕ → OutlineFiles → Type 0
LacksCodeOfOutline s in_c lines outline =
    (places : List ℕ) × LacksCode (IsBuiltOutline outline) s.erase (auxiliary_of s.keeps_aux outline) (priority_for s.priority outline) in_c places lines

-- a verdict is to be followed by the accesses of the outline's code, and that isn't had
abbrev pub LacksMore : Settings → OutlineFiles → List ℕ → Type 0
LacksMore s outline lines = (s.has_accesses ≡ true) × LacksCodeOfOutline s true lines outline

-- these lines report that the outline of a command is refused; or that words have to stay, or that there is no C, where the command is about code
abbrev pub IsFault : Settings → Command → Files → List ℕ → Type 0
IsFault s (Emit _ _ _) files lines = LacksCodeOfFiles s s.is_c files lines
IsFault s (Accesses _ _ _) files lines = LacksCodeOfFiles s true files lines
IsFault s (Run _ _ _ _ _ _ _) files lines = LacksCodeOfFiles s false files lines
IsFault s (EmitOutline _) files lines = IsRefusedOutline files.outline lines ⊎ OfOutline files (LacksCodeOfOutline s s.is_c lines)
IsFault s (AccessesOutline _) files lines = IsRefusedOutline files.outline lines ⊎ OfOutline files (LacksCodeOfOutline s true lines)
IsFault s (RunOutline _ _ _ _ _) files lines = IsRefusedOutline files.outline lines
IsFault s (Outline _ _ _ _ _ _) files lines = IsRefusedOutline files.outline lines
IsFault s (Verify _ _ false _) files lines = IsRefusedOutline files.outline lines ⊎ OfOutline files (λ outline. LacksMore s outline lines)
IsFault s (Verify _ _ true _) files lines = IsRefusedOutline files.outline lines
IsFault s (Complete _ _ _ _) files lines = IsRefusedOutline files.outline lines
IsFault s (Challenge _ _) files lines = IsRefusedOutline files.outline lines
IsFault s _ files lines = ⊥

-- conditions of an outline have no proof: what was found of these is so, and all others hold
abbrev pub LacksOutlineProofs : OutlineFiles → Type 0
LacksOutlineProofs outline = (unproved : List Unproved) × AreUnprovedOf outline unproved

-- the settings ask for C
abbrev pub asks_for_c : Settings → Bool
asks_for_c s = s.is_c || (is_some s.prefix || s.is_traced)

-- the settings ask for a form that only one command has: for C or for SMT-LIB
abbrev pub asks_for_form : Settings → Bool
asks_for_form s = asks_for_c s || s.is_smt

-- a verdict can be followed by how each step is done in C, without words that are erased; else no words are erased, and no order of parts is given
abbrev pub fits_verdict : Settings → Bool → Option (Bor (List ℕ)) → Bool
fits_verdict s is_runs_only text = if s.has_accesses then not is_runs_only && (not (is_some text) && is_plain s.format) else (not (is_some s.erase) && not (is_some s.priority))

-- clauses can be printed as the settings ask for, which have no JSON
abbrev pub fits_clauses : Settings → Bool
fits_clauses s = not (asks_for_c s) && (not (is_some s.erase) && is_plain s.format)

-- a command can do what its settings ask for
abbrev pub fits : Settings → Command → Bool
fits s (Emit _ _ _) = not s.is_smt
fits s (EmitOutline _) = not s.is_smt
fits s (Accesses _ _ _) = not (asks_for_form s)
fits s (AccessesOutline _) = not (asks_for_form s)
fits s (Run _ _ _ _ _ _ _) = not (asks_for_form s)
fits s (Clauses _ _) = fits_clauses s
-- (an outline is completed before it is verified: the line that verifies it is another one)
fits s (Complete _ _ _ _) = false
fits s (Verify _ _ is_runs_only text) = not (asks_for_form s) && fits_verdict s is_runs_only text
fits s _ = not (asks_for_form s) && not (is_some s.erase)

-- words of a command that don't fit
abbrev pub IsWordMisfit : Settings → Command → Type 0
IsWordMisfit s (Prove _ _ _ (Some range)) = Unit {0}
IsWordMisfit s (Explain number) = Unit {0}
IsWordMisfit s (Conditions _ _ true) = is_plain s.format ≡ false
IsWordMisfit s (Run _ _ _ _ _ _ (Some picture)) = is_plain s.format ≡ false
IsWordMisfit s (Emit _ _ _) = Unit {0}
IsWordMisfit s (EmitOutline _) = Unit {0}
IsWordMisfit s (Verify outlines _ _ (Some text)) = outlines.count ≡ 1 → ⊥
IsWordMisfit s _ = ⊥

-- the words don't fit: what is asked for doesn't go with the command, what stands for a range may be none, the number may be that of no refusal, the name of
-- a header may be one that C has a use for, formulas or a picture are asked for as JSON, or a file for the text of several outlines
abbrev pub IsMisfit : Settings → Command → Type 0
IsMisfit s of = (fits s of ≡ false) ⊎ IsWordMisfit s of

-- the command looks for proofs of the conditions of an outline
abbrev pub LooksForProofs : Command → Type 0
LooksForProofs (EmitOutline _) = Unit {0}
LooksForProofs (AccessesOutline _) = Unit {0}
LooksForProofs (RunOutline _ _ _ _ _) = Unit {0}
LooksForProofs (Outline _ _ _ _ proofs _) = is_some proofs ≡ true
LooksForProofs (Verify _ _ is_runs_only _) = is_runs_only ≡ false
LooksForProofs (Challenge _ _) = Unit {0}
LooksForProofs _ = ⊥

-- why a command has no answer
abbrev pub IsStop : Settings → Command → Files → Stop → Type 0
IsStop s of files (Device line) = unread_line of files ≡ Some line.now
IsStop s of files (Refused e) = AreFilesRefused of files e ⊎ (e ≡ no_memory)
IsStop s of files (Unverified report) = LooksForProofs of × OfOutline files LacksOutlineProofs
IsStop s of files (Fault lines) = IsFault s of files lines.items
IsStop s of files (Usage line) = IsMisfit s of
