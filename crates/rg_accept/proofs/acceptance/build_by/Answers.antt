use Rattle.rg_accept.specs.Stages.{accepted_program, emitted_program, emitted_blocks}
use Rattle.rg_accept.proofs.Texts.{text_built}
use Rattle.rg_accept.proofs.acceptance.build_by.Goals as goal

pub returns-in-Ok-emit-clause-built : goal.returns-in-Ok-emit-clause-built
returns-in-Ok-emit-clause-built g c =
    text_built c.args.text.now c.args.derivation.now c.args.proofs.now (accepted_program c.in-Ok.accepted) (emitted_program c.in-Ok-emit.coded) (emitted_blocks c.in-Ok-emit.coded) c.in-Ok-emit.ensures.program c.in-Ok.ensures.accepted c.in-Ok.ensures.satisfied c.in-Ok-emit.ensures.blocks c.in-Ok-emit.ensures.runs
