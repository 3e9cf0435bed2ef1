use Rattle.std.proofs.Common.{ℕ, List, [], ◌∷◌}
use Rattle.rg_tree.specs.Lines.{LineTree}
use Rattle.rg_tree.specs.Statements.{ProgramTree}
use Rattle.rg_outline_reports.specs.declared.files.OutlineFiles.{OutlineFiles}
use Rattle.rgc.specs.Pieces.{AreAcceptedInPieces}
use Rattle.rgc_outlines.specs.Proved.{IsProvedOutline}
use Rattle.rgc_outlines.proofs.Short.{short_accepted}
use Rattle.rgc_outlines.proofs.proved.proved_outlines_are_accepted.Goals as goal

accepted : (files : OutlineFiles) (program : ProgramTree) (lines : List LineTree) (proofs : List (List ℕ)) (o : IsProvedOutline files program lines proofs) → AreAcceptedInPieces files.text.items o.derived.pieces proofs program
accepted files program lines proofs o = record { lines = lines; derived = o.derived.derived; proved = o.proved }

pub returns-clause-pieces : goal.returns-clause-pieces
returns-clause-pieces c = accepted

pub returns-clause-short : goal.returns-clause-short
returns-clause-short c = λ files program lines proofs o short.
    short_accepted files.text.items files.derivation.items proofs o.derived.pieces program o.derived.cut short (accepted files program lines (proofs ∷ []) o)
