-- Why nothing is said of an outline.
use Rattle.std.specs.Prelude.{◌⊎◌, ℕ, List, Bool, true, false}
use Rattle.rg_words.specs.declared.refusal.Refusal.{Refusal}
use Rattle.rg_outline_reports.specs.declared.files.OutlineFiles.{OutlineFiles}
use Rattle.rg_tree.specs.Lines.{LineTree}
use Rattle.rg_tree.specs.Statements.{ProgramTree}
use Rattle.rg_accept.specs.Accepted.{conditions_of}
use Rattle.rgc.specs.Proofs.{IsSearchRefusal}
use Rattle.rgc_outlines.specs.Cut.{IsOfPieces, IsOfPiecesRefusal}

-- why it isn't said whether an outline's files are verified: for a fault of the text, or of the pieces of the derivation; else of the search for proofs of the
-- conditions of what they derive
abbrev pub IsVerifyRefusal : OutlineFiles → ℕ → Refusal → Type 0
IsVerifyRefusal files steps e =
    IsOfPiecesRefusal files.text.items files.derivation.items e
    ⊎ ((program : ProgramTree) × (lines : List LineTree) × IsOfPieces files.text.items files.derivation.items program lines × IsSearchRefusal (conditions_of program lines) steps e)

-- why an outline isn't expanded: for such a fault; else, where proofs are wanted, of the search for them
abbrev pub IsExpandRefusal : Bool → OutlineFiles → ℕ → Refusal → Type 0
IsExpandRefusal true files steps e = IsVerifyRefusal files steps e
IsExpandRefusal false files steps e = IsOfPiecesRefusal files.text.items files.derivation.items e
