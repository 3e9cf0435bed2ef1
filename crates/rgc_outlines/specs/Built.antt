-- The code of an outline's program.
use Rattle.std.specs.Prelude.{ℕ, List}
use Rattle.rg_outline_reports.specs.declared.files.OutlineFiles.{OutlineFiles}
use Rattle.rg_tree.specs.Statements.{ProgramTree}
use Rattle.rg_code.specs.Code.{BlockTree}
use Rattle.rgc.specs.Pieces.{IsBuiltInPieces}
use Rattle.rg_outline_reports.specs.Cut.{ArePiecesOf}

-- the text of these files, the pieces of their derivation, and some proofs are accepted for a program, and these are exactly the blocks of its code
pub record IsBuiltOutline (files : OutlineFiles) (program : ProgramTree) (blocks : List (List BlockTree)) : Type 0 where
  pub pieces : List (List ℕ)
  pub proofs : List (List ℕ)
  pub cut : ArePiecesOf files.derivation.items pieces
  pub built : IsBuiltInPieces files.text.items pieces proofs program blocks
