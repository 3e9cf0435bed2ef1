use Rattle.rg_tree.specs.ProgramTrees.{program as program_tree}
use Rattle.rg_accept.proofs.InPieces.{pieces_accepted}
use Rattle.rg_accept.proofs.stages.Derived.of_pieces.Goals as goal

pub returns-in-Err-of_lines-clause-accepts : goal.returns-in-Err-of_lines-clause-accepts
returns-in-Err-of_lines-clause-accepts c = λ ls fits.
    pieces_accepted c.one_derivation.ensures c.derivations_have_no_fault.ensures (program_tree c.args.program) _ _ ls _ _ c.in-Ok.ensures.spelled fits c.in-Err-of_lines.ensures.fault
