-- Why a part of an answer isn't there.
use Rattle.std.specs.Prelude.{◌≡◌, ◌⊎◌, ℕ, List, Bool, true, Option, Some, None}
use Rattle.std.specs.Borrow.{Bor}
use Rattle.rg_words.specs.Refusals.{no_memory}
use Rattle.rg_outline_reports.specs.declared.files.OutlineFiles.{OutlineFiles}
use Rattle.rgc.specs.Pieces.{IsAcceptInPiecesRefusal}
use Rattle.rgc_line.specs.declared.command.Command.{Command}
use Rattle.rgc_line.specs.declared.command.Command.TheVariants.{EmitOutline, AccessesOutline, RunOutline, Outline, Verify, Complete, Challenge}
use Rattle.rgc_line.specs.declared.command.Outlines.{Outlines}
use Rattle.rgc_line.specs.declared.command.Settings.{Settings}
use Rattle.rgc_outlines.specs.Refused.{IsVerifyRefusal, IsExpandRefusal}
use Rattle.rgc_commands.specs.Of.{OfOutline, OfThree, IsRefusedOutline}
use Rattle.rgc_commands.specs.Stops.{LacksOutlineProofs, LacksCodeOfFiles, text_line, derivation_line, proofs_line, outline_line}
use Rattle.rgc_commands.specs.declared.files.Files.{Files}
use Rattle.rgc_commands.specs.declared.outlines.TheConstants.{MOST_STEPS}
use Rattle.rgc_commands.specs.declared.stops.Stop.{Stop}
use Rattle.rgc_commands.specs.declared.stops.Stop.TheVariants.{Device, Refused, Unverified, Fault, Usage}

-- a file can't be read, and this line tells it
abbrev pub IsDevice : Option (List ℕ) → Stop → Type 0
IsDevice line (Device reported) = line ≡ Some reported.now
IsDevice line _ = ⊥

-- the command is over an outline
abbrev pub IsOverOutline : Command → Type 0
IsOverOutline (EmitOutline _) = Unit {0}
IsOverOutline (AccessesOutline _) = Unit {0}
IsOverOutline (RunOutline _ _ _ _ _) = Unit {0}
IsOverOutline (Outline _ _ _ _ _ _) = Unit {0}
IsOverOutline (Verify _ _ _ _) = Unit {0}
IsOverOutline (Complete _ _ _ _) = Unit {0}
IsOverOutline (Challenge _ _) = Unit {0}
IsOverOutline _ = ⊥

-- there is a fault, of which this is so, or memory was refused
abbrev pub IsFaultStop : (List ℕ → Type 0) → Stop → Type 0
IsFaultStop Why (Fault lines) = Why lines.items
IsFaultStop Why (Refused e) = e ≡ no_memory
IsFaultStop Why _ = ⊥

-- what is asked for doesn't fit, or memory was refused
abbrev pub IsFormStop : Stop → Type 0
IsFormStop (Usage line) = Unit {0}
IsFormStop (Refused e) = e ≡ no_memory
IsFormStop _ = ⊥

-- the outline of a command can't be read, or it stands for no files
abbrev pub IsNoOutline : Files → Stop → Type 0
IsNoOutline files (Device line) = outline_line files None ≡ Some line.now
IsNoOutline files (Refused e) = e ≡ no_memory
IsNoOutline files (Fault lines) = IsRefusedOutline files.outline lines.items
IsNoOutline files _ = ⊥

-- there is no code of three files
abbrev pub IsFilesStop : Settings → Bool → Files → Stop → Type 0
IsFilesStop s in_c files (Device line) = text_line files (derivation_line files (proofs_line files None)) ≡ Some line.now
IsFilesStop s in_c files (Refused e) = OfThree files (λ text derivation proofs. IsAcceptInPiecesRefusal text derivation proofs e) ⊎ (e ≡ no_memory)
IsFilesStop s in_c files (Fault lines) = LacksCodeOfFiles s in_c files lines.items
IsFilesStop s in_c files _ = ⊥

-- an outline has no proofs, or there is a fault, of which this is so
abbrev pub IsProofStop : OutlineFiles → ℕ → (List ℕ → Type 0) → Stop → Type 0
IsProofStop outline steps Why (Refused e) = IsVerifyRefusal outline steps e
IsProofStop outline steps Why (Unverified report) = LacksOutlineProofs outline
IsProofStop outline steps Why (Fault lines) = Why lines.items
IsProofStop outline steps Why _ = ⊥

-- the same of the outline of a command, which may be none
abbrev pub IsOutlineStop : Files → (List ℕ → OutlineFiles → Type 0) → Stop → Type 0
IsOutlineStop files Why (Device line) = outline_line files None ≡ Some line.now
IsOutlineStop files Why (Refused e) = OfOutline files (λ outline. IsVerifyRefusal outline MOST_STEPS e) ⊎ (e ≡ no_memory)
IsOutlineStop files Why (Unverified report) = OfOutline files LacksOutlineProofs
IsOutlineStop files Why (Fault lines) = IsRefusedOutline files.outline lines.items ⊎ OfOutline files (Why lines.items)
IsOutlineStop files Why _ = ⊥

-- no fault
abbrev pub NoFault : List ℕ → Type 0
NoFault lines = ⊥

-- an outline isn't had to be verified: a file is named for the text of several, or it can't be read, is refused, or memory was refused
abbrev pub IsVerifiedStop : Outlines → Option (Bor (List ℕ)) → Files → Stop → Type 0
IsVerifiedStop outlines text files (Device line) = outline_line files None ≡ Some line.now
IsVerifiedStop outlines text files (Refused e) = e ≡ no_memory
IsVerifiedStop outlines text files (Fault lines) = IsRefusedOutline files.outline lines.items
IsVerifiedStop outlines (Some text) files (Usage line) = outlines.count ≡ 1 → ⊥
IsVerifiedStop outlines text files _ = ⊥

-- an outline's files aren't derived, or have no proofs where these are wanted
abbrev pub IsExpandStop : Bool → OutlineFiles → ℕ → Stop → Type 0
IsExpandStop has_proofs outline steps (Refused e) = IsExpandRefusal has_proofs outline steps e
IsExpandStop has_proofs outline steps (Unverified report) = (has_proofs ≡ true) × LacksOutlineProofs outline
IsExpandStop has_proofs outline steps _ = ⊥
