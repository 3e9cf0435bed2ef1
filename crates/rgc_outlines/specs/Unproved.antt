-- Outlines of which some conditions have no proof.
use Rattle.std.specs.Prelude.{◌+◌, List, length}
use Rattle.rg_outline_reports.specs.declared.files.OutlineFiles.{OutlineFiles}
use Rattle.rg_tree.specs.Lines.{LineTree}
use Rattle.rg_tree.specs.Statements.{ProgramTree}
use Rattle.rg_accept.specs.Accepted.{conditions_of}
use Rattle.rgc.specs.Proofs.{AreUnproved}
use Rattle.rgc.specs.declared.proofs_found.Unproved.{Unproved}
use Rattle.rgc_outlines.specs.Cut.{IsOfPieces}

-- the text of these files spells a program, and the pieces of their derivation spell lines that derive its parts; some of their conditions have no proof, what
-- was found of these is so, and all others hold
pub record AreUnprovedOf (files : OutlineFiles) (unproved : List Unproved) : Type 0 where
  pub program : ProgramTree
  pub lines : List LineTree
  pub derived : IsOfPieces files.text.items files.derivation.items program lines
  pub are : AreUnproved (conditions_of program lines) 1 (length (conditions_of program lines) + 1) unproved
