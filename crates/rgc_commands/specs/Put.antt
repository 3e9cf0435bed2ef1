-- What was put beside the output.
use Rattle.std.specs.Prelude.{◌≡◌, List, ℕ, Option, Some, None, map, string_bytes, ◌++◌}
use Rattle.rg_tree.specs.Lines.{LineTree}
use Rattle.rg_tree.specs.Statements.{ProgramTree}
use Rattle.rg_outline_reports.specs.declared.files.OutlineFiles.{OutlineFiles}
use Rattle.rgc_line.specs.declared.command.Command.{Command}
use Rattle.rgc_line.specs.declared.command.Command.TheVariants.{Outline, Verify}
use Rattle.rgc_outlines.specs.Proved.{IsProvedOutline}
use Rattle.rgc_commands.specs.Of.{outline_files}
use Rattle.rgc_commands.specs.declared.files.Files.{Files}
use Rattle.rgc_commands.specs.declared.sides.Sides.{Sides}

-- a text was put after what was there, where a file is named for it
abbrev pub IsPut : {A : Type 0} → Option A → List ℕ → List ℕ → List ℕ → Type 0
IsPut None text old new = new ≡ old
IsPut (Some name) text old new = new ≡ old ++ text

-- these pieces of proofs prove all conditions of an outline, where a file is named for them
abbrev pub AreProofs : {A : Type 0} → Option A → OutlineFiles → List (List ℕ) → Type 0
AreProofs None outline pieces = Unit {0}
AreProofs (Some name) outline pieces = (program : ProgramTree) × (lines : List LineTree) × IsProvedOutline outline program lines pieces

-- what a command over an outline names files for was put: the text and the derivation after what was there, and the pieces of the proofs
abbrev pub ArePutOf : Command → Option OutlineFiles → List ℕ → List ℕ → List ℕ → List ℕ → List (List ℕ) → Type 0
ArePutOf (Outline _ _ text derivation proofs _) (Some outline) old_text new_text old_derivation new_derivation pieces =
    IsPut text outline.text.items old_text new_text × IsPut derivation outline.derivation.items old_derivation new_derivation × AreProofs proofs outline pieces
ArePutOf (Verify _ _ _ text) (Some outline) old_text new_text old_derivation new_derivation pieces = IsPut text outline.text.items old_text new_text
ArePutOf _ _ old_text new_text old_derivation new_derivation pieces = Unit {0}

abbrev pub ArePut : Command → Files → Sides → Sides → Type 0
ArePut command files before after =
    ArePutOf command (outline_files files.outline) before.text.items after.text.items before.derivation.items after.derivation.items (map string_bytes after.proofs.items)
