-- What is so of the bytes of files that are there.
use Rattle.std.specs.Prelude.{◌≡◌, ◌⊎◌, ℕ, List, Option, Some, None, Result, Ok, Err}
use Rattle.std.specs.Borrow.{Bor}
use Rattle.rg_outline_reports.specs.declared.files.NoFiles.{NoFiles}
use Rattle.rg_outline_reports.specs.declared.files.NoFiles.TheVariants.{Reported}
use Rattle.rg_outline_reports.specs.declared.files.OutlineFiles.{OutlineFiles}
use Rattle.rg_outline_reports.specs.declared.files.OutlineSource.{OutlineSource}
use Rattle.rg_outline_reports.specs.declared.outlined.Outlined.{Outlined}
use Rattle.rg_outline_reports.specs.declared.worked_out.Reading.{Reading}
use Rattle.rg_outline_reports.specs.declared.worked_out.WorkedOut.{WorkedOut}
use Rattle.rg_outline_reports.specs.WorkedOut.{read_source, read_result, worked_source, worked_result, IsExpansionOf}
use Rattle.rgc.specs.Pieces.{bytes_of}
use Rattle.rgc_commands.specs.Meant.{AreMeant, IsRefusedAsUnmeant}
use Rattle.rgc_commands.specs.declared.files.Files.{Files}
use Rattle.rgc_commands.specs.declared.given.Given.{Given}

-- the bytes of the pieces of a file, in their order
abbrev pub Pieces : Type 0
Pieces = Bor (List (Bor (List ℕ)))

-- a text is there, and this is so of its bytes
abbrev pub OfText : Option (Bor (List ℕ)) → (List ℕ → Type 0) → Type 0
OfText None P = ⊥
OfText (Some bytes) P = P bytes.now

-- the pieces of a file are there, and this is so of their bytes
abbrev pub OfPieces : Option Pieces → (List (List ℕ) → Type 0) → Type 0
OfPieces None P = ⊥
OfPieces (Some pieces) P = P (bytes_of pieces.now)

-- of a text and a derivation
abbrev pub OfTwo : Files → (List ℕ → List (List ℕ) → Type 0) → Type 0
OfTwo files P = OfText files.text (λ text. OfPieces files.derivation (P text))

-- of a text, a derivation and proofs
abbrev pub OfThree : Files → (List ℕ → List (List ℕ) → List (List ℕ) → Type 0) → Type 0
OfThree files P = OfTwo files (λ text derivation. OfPieces files.proofs (P text derivation))

-- the files that an expansion gives, where it gives some
abbrev pub files_of : Result Outlined NoFiles → Option OutlineFiles
files_of (Ok outlined) = Some outlined.files
files_of (Err none) = None

-- the files that the outline of a command stands for
abbrev pub outline_files : Option (Bor (Result Outlined NoFiles)) → Option OutlineFiles
outline_files None = None
outline_files (Some expanded) = files_of expanded.now

-- the outline of a command is refused, with these lines: an expansion gives them, and no files
abbrev pub IsReportedBy : Result Outlined NoFiles → List ℕ → Type 0
IsReportedBy (Err (Reported report)) lines = lines ≡ report.items
IsReportedBy _ lines = ⊥

abbrev pub IsRefusedOutline : Option (Bor (Result Outlined NoFiles)) → List ℕ → Type 0
IsRefusedOutline None lines = ⊥
IsRefusedOutline (Some expanded) lines = IsReportedBy expanded.now lines

-- an outline stands for files, and this is so of them
abbrev pub OfOutlined : Option OutlineFiles → (OutlineFiles → Type 0) → Type 0
OfOutlined None P = ⊥
OfOutlined (Some files) P = P files

abbrev pub OfOutline : Files → (OutlineFiles → Type 0) → Type 0
OfOutline files P = OfOutlined (outline_files files.outline) P

-- what was read of a file that need not be named: nothing where it isn't, and else its bytes
abbrev pub IsRead : {A B : Type 0} → Option A → Option B → Option B → Type 0
IsRead None file bytes = bytes ≡ None
IsRead (Some name) (Some found) bytes = bytes ≡ Some found
IsRead (Some name) None bytes = ⊥

-- an outline is taken for what it was worked out to, where that is files only if the outline stands for the program that their text spells; or it is refused,
-- as that isn't known
abbrev pub IsTaken : OutlineSource → Result Outlined NoFiles → Result Outlined NoFiles → Type 0
IsTaken outline worked expanded = ((expanded ≡ worked) × AreMeant outline worked) ⊎ IsRefusedAsUnmeant outline expanded

-- an outline was read, what was read of it was worked out, and no other outline was; it is taken for what came out, or refused
pub record IsWorkedOut (outline : OutlineSource) (expanded : Result Outlined NoFiles) : Type 0 where
  pub reading : Reading
  pub read : read_source reading ≡ outline
  pub worked : WorkedOut
  pub of : worked_source worked ≡ outline
  pub written : IsExpansionOf (read_result reading) (worked_result worked)
  pub taken : IsTaken outline (worked_result worked) expanded

-- the same of the outline of a command, where it is over one
abbrev pub IsOutlineOf : Option OutlineSource → Option (Bor (Result Outlined NoFiles)) → Type 0
IsOutlineOf None None = Unit {0}
IsOutlineOf (Some outline) (Some expanded) = IsWorkedOut outline expanded.now
IsOutlineOf _ _ = ⊥

-- these are the files that are given, the outline among them worked out
pub record AreGiven (given : Given) (files : Files) : Type 0 where
  pub text : files.text ≡ given.text
  pub derivation : files.derivation ≡ given.derivation
  pub proofs : files.proofs ≡ given.proofs
  pub start : files.start ≡ given.start
  pub moves : files.moves ≡ given.moves
  pub outline : IsOutlineOf given.outline files.outline
