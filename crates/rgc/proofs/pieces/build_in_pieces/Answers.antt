use Rattle.rg_accept.specs.Stages.{accepted_program, emitted_program, emitted_blocks}
use Rattle.rgc.proofs.InPieces.{pieces_built}
use Rattle.rgc.proofs.pieces.build_in_pieces.Goals as goal

pub returns-in-Ok-emit-clause-built : goal.returns-in-Ok-emit-clause-built
returns-in-Ok-emit-clause-built g c =
    let emitted = c.in-Ok-emit.emitted in
    pieces_built c.args.text.now _ _ (accepted_program c.in-Ok.accepted) (emitted_program emitted) (emitted_blocks emitted) c.in-Ok-emit.ensures.program c.in-Ok.ensures.accepted c.in-Ok.ensures.satisfied c.in-Ok-emit.ensures.blocks c.in-Ok-emit.ensures.runs
