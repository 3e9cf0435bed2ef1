-- What a command line says, by the matches of its subcommand.
use Rattle.std.specs.Prelude.{◌≡◌, ◌⊎◌, ℕ, Option, Some, None, List, [], ◌∷◌, ◌≤◌, length, codes}
use Rattle.clap.specs.Words.{Row, Text, all_of, HasKind, fault_of, subcommand_of}
use Rattle.rgc_line.specs.Values.{Value, file, file_of, number, flag, absent, optional, IsThere, HasNo, HasFiles, HasValues}
use Rattle.rgc_line.specs.App.{rgc_app, row_of, derivation_files, condition, HasSettings, IsUnknownFormat}
use Rattle.rgc_line.specs.declared.line.LineFault.{LineFault}
use Rattle.rgc_line.specs.declared.line.LineFault.TheVariants.{Usage, Fields}
use Rattle.rgc_line.specs.declared.fields.FieldFault.{FieldFault}
use Rattle.rgc_line.specs.declared.fields.FieldFault.TheVariants.{Apart, UnknownFormat, RunFiles, EmitFiles, AccessesFiles, NoFile}
use Rattle.rgc_line.specs.declared.command.Chosen.{Chosen}
use Rattle.rgc_line.specs.declared.line.Line.{Line}
use Rattle.rgc_line.specs.declared.command.Command.{Command}
use Rattle.rgc_line.specs.declared.command.Command.TheVariants.{Number, Check, Conditions, Prove, Emit, EmitOutline, Accesses, AccessesOutline, Run, RunOutline, Valid, Clauses, Find, Outline, Verify, Complete, Challenge, Explain}
use Rattle.rgc_line.specs.declared.commands.Kind.{Kind}
use Rattle.rgc_line.specs.declared.commands.Kind.TheVariants as kind

-- before others, the values of the two options that choose a condition: a condition is chosen by both, and none by neither
abbrev pub chosen_values : Option Chosen → List Value → List Value
chosen_values None rest = absent ∷ absent ∷ rest
chosen_values (Some chosen) rest = file chosen.derivation ∷ number chosen.condition ∷ rest

-- The commands by the table: the row of each, and the values of the row's own files and options in their order. What several commands have comes after
-- them, and has no values here.
abbrev pub contents_of : Command → Kind × List Value
contents_of (Number text) = (kind.Number, file text ∷ [])
contents_of (Check text derivation proofs) = (kind.Check, file text ∷ file derivation ∷ file proofs ∷ [])
contents_of (Conditions text derivation has_formulas) = (kind.Conditions, file text ∷ file derivation ∷ flag has_formulas ∷ [])
contents_of (Prove text derivation steps conditions) = (kind.Prove, file text ∷ file derivation ∷ number steps ∷ optional file conditions ∷ [])
contents_of (Emit text derivation proofs) = (kind.Emit, absent ∷ file text ∷ file derivation ∷ file proofs ∷ [])
contents_of (EmitOutline outline) = (kind.Emit, file outline ∷ absent ∷ [])
contents_of (Accesses text derivation proofs) = (kind.Accesses, absent ∷ file text ∷ file derivation ∷ file proofs ∷ [])
contents_of (AccessesOutline outline) = (kind.Accesses, file outline ∷ absent ∷ [])
contents_of (Run text derivation proofs start moves limit draw) = (kind.Run, optional file start ∷ optional file moves ∷ number limit ∷ optional file draw ∷ absent ∷ file text ∷ file derivation ∷ file proofs ∷ [])
contents_of (RunOutline outline start moves limit draw) = (kind.Run, optional file start ∷ optional file moves ∷ number limit ∷ optional file draw ∷ file outline ∷ absent ∷ [])
contents_of (Valid text proofs) = (kind.Valid, file text ∷ file proofs ∷ [])
contents_of (Clauses text chosen) = (kind.Clauses, file text ∷ chosen_values chosen [])
contents_of (Find text steps chosen) = (kind.Find, file text ∷ chosen_values chosen (number steps ∷ []))
contents_of (Outline outline steps text derivation proofs map) = (kind.Outline, file outline ∷ optional number steps ∷ optional file text ∷ optional file derivation ∷ optional file proofs ∷ optional file map ∷ [])
contents_of (Verify outlines steps is_runs_only text) = (kind.Verify, file_of outlines ∷ optional number steps ∷ flag is_runs_only ∷ optional file text ∷ [])
contents_of (Complete outline steps finds_invariant is_in_place) = (kind.Complete, file outline ∷ optional number steps ∷ flag finds_invariant ∷ flag is_in_place ∷ [])
contents_of (Challenge outline has_refused) = (kind.Challenge, file outline ∷ flag has_refused ∷ [])
contents_of (Explain n) = (kind.Explain, number n ∷ [])

-- the subcommand is the row's, and its matches have the values
abbrev pub HasContents : Text → List Row → Kind × List Value → Type 0
HasContents name rows it = let row = row_of it.0 in (name ≡ row.name) × HasValues rows row.rules it.1

-- a command over several files is the one over the file at this place
abbrev pub IsAt : ℕ → Command → Type 0
IsAt place (Verify outlines _ _ _) = outlines.place ≡ place
IsAt place _ = Unit {0}

-- the subcommand and its matches are those of this line
pub record Says (subcommand : Option (Text × List Row)) (place : ℕ) (line : Line) : Type 0 where
  pub name : Text
  pub rows : List Row
  pub is : subcommand ≡ Some (name, rows)
  pub contents : HasContents name rows (contents_of line.command)
  pub settings : HasSettings rows line.settings
  pub at : IsAt place line.command

-- of the two options that choose a condition, the words have one alone
abbrev pub AreApart : List Row → Type 0
AreApart rows =
    (IsThere rows derivation_files.id × HasNo rows condition.id) ⊎ (HasNo rows derivation_files.id × IsThere rows condition.id)

-- a run, or code, is asked for of an outline and of files, or of no outline and of some of the three files alone
abbrev pub AreRunFilesApart : List Row → Type 0
AreRunFilesApart rows =
    (IsThere rows (codes "outline") × IsThere rows (codes "TEXT"))
    ⊎ (HasNo rows (codes "outline") × (HasNo rows (codes "TEXT") ⊎ (HasNo rows (codes "DERIVATION") ⊎ HasNo rows (codes "PROOFS"))))

-- no file stands at the place: the words name so many files or fewer
abbrev pub IsBeyond : List Row → ℕ → Type 0
IsBeyond rows place = (names : List Text) × (all_of (codes "OUTLINE") rows ≡ Some names) × (length names ≤ place)

-- the words are those of a subcommand, and have these files at the id
abbrev pub AreFilesOf : Option (Text × List Row) → Text → List Text → Type 0
AreFilesOf None id files = ⊥
AreFilesOf (Some inner) id files = HasFiles inner.1 id files

-- why the matches of a subcommand give no command: of each fault, at which commands it can be reported and what the words have then
abbrev pub IsFieldFault : Kind → List Row → ℕ → FieldFault → Type 0
IsFieldFault of rows place Apart = ((of ≡ kind.Clauses) ⊎ (of ≡ kind.Find)) × AreApart rows
IsFieldFault of rows place UnknownFormat = IsUnknownFormat rows
IsFieldFault of rows place RunFiles = (of ≡ kind.Run) × AreRunFilesApart rows
IsFieldFault of rows place EmitFiles = (of ≡ kind.Emit) × AreRunFilesApart rows
IsFieldFault of rows place AccessesFiles = (of ≡ kind.Accesses) × AreRunFilesApart rows
IsFieldFault of rows place NoFile = (of ≡ kind.Verify) × IsBeyond rows place

-- the words are those of a subcommand of the table, and its matches give no command
pub record AreRefused (words : List Text) (place : ℕ) (fault : FieldFault) : Type 0 where
  pub kind : Kind
  pub rows : List Row
  pub is : subcommand_of rgc_app words ≡ Some ((row_of kind).name, rows)
  pub why : IsFieldFault kind rows place fault

-- why the words name no command: memory was refused, or `clap` finds a fault in them, or it finds none and options don't fit together
abbrev pub IsLineFault : List Text → ℕ → LineFault → Type 0
IsLineFault words place (Usage error) = HasKind (fault_of rgc_app words) error
IsLineFault words place (Fields fault) = (fault_of rgc_app words ≡ []) × AreRefused words place fault
