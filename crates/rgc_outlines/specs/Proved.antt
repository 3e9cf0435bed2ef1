-- Outlines all of whose conditions are proved.
use Rattle.std.specs.Prelude.{ℕ, ◌≤◌, List, [], ◌∷◌, length, map, string_bytes}
use Rattle.rg_words.specs.declared.limits.TheConstants.{MOST_TEXT_BYTES}
use Rattle.rg_outline_reports.specs.declared.files.OutlineFiles.{OutlineFiles}
use Rattle.rg_tree.specs.ConditionTrees.{ConditionTree}
use Rattle.rg_tree.specs.Lines.{LineTree}
use Rattle.rg_tree.specs.Statements.{ProgramTree}
use Rattle.rg_tree.specs.Programs.{IsSatisfied}
use Rattle.rg_pool.specs.ProofPieces.{AreProvedBy}
use Rattle.rg_accept.specs.Accepted.{conditions_of, AreAccepted}
use Rattle.rg_accept.specs.Stages.{derived_program, derived_lines}
use Rattle.rgc.specs.Pieces.{AreAcceptedInPieces}
use Rattle.rgc_outlines.specs.Cut.{IsOfPieces}
use Rattle.rgc_outlines.specs.declared.proved.Proved.{Proved}

-- the text of these files spells this program, the pieces of their derivation spell these lines, which derive its parts, and the proofs prove all conditions; so
-- the program satisfies its specification
pub record IsProvedOutline (files : OutlineFiles) (program : ProgramTree) (lines : List LineTree) (proofs : List (List ℕ)) : Type 0 where
  pub derived : IsOfPieces files.text.items files.derivation.items program lines
  pub proved : AreProvedBy (conditions_of program lines) proofs
  pub satisfied : IsSatisfied program

-- the conditions of what was derived, and the proofs of them
abbrev pub conditions_in : Proved → List ConditionTree
conditions_in p = conditions_of (derived_program p.derived) (derived_lines p.derived)

abbrev pub proofs_in : Proved → List (List ℕ)
proofs_in p = map string_bytes p.proofs.items

-- they are those of these files
abbrev pub IsProvedOf : OutlineFiles → Proved → Type 0
IsProvedOf files p = IsProvedOutline files (derived_program p.derived) (derived_lines p.derived) (proofs_in p)

-- the files of such an outline are accepted with the proofs, in pieces
abbrev pub AreProvedOutlinesAccepted : Type 0
AreProvedOutlinesAccepted =
    (files : OutlineFiles) (program : ProgramTree) (lines : List LineTree) (proofs : List (List ℕ)) (o : IsProvedOutline files program lines proofs)
    → AreAcceptedInPieces files.text.items o.derived.pieces proofs program

-- and as any files are, where the derivation is no longer than a file may be, and the proofs are one file
abbrev pub AreShortOutlinesAccepted : Type 0
AreShortOutlinesAccepted =
    (files : OutlineFiles) (program : ProgramTree) (lines : List LineTree) (proofs : List ℕ) → IsProvedOutline files program lines (proofs ∷ [])
    → length files.derivation.items ≤ MOST_TEXT_BYTES → AreAccepted files.text.items files.derivation.items proofs program
