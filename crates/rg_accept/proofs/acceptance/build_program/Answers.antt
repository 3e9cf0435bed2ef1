use Rattle.std.proofs.Common.{◌≡◌, subst}
use Rattle.rg_tree.specs.Statements.{ProgramTree}
use Rattle.rg_code.specs.Code.{HasRunsOf, program_code}
use Rattle.rg_accept.specs.Stages.{emitted_blocks}
use Rattle.rg_accept.proofs.acceptance.build_program.Goals as goal

pub returns-in-Ok-emit-clause-built : goal.returns-in-Ok-emit-clause-built
returns-in-Ok-emit-clause-built c = record {
  accepted = c.in-Ok.ensures.accepted;
  compiled = subst (λ (t : ProgramTree). emitted_blocks c.in-Ok-emit.emitted ≡ program_code t.parts) c.in-Ok.ensures.program c.in-Ok-emit.ensures.blocks;
  runs = subst (λ (t : ProgramTree). HasRunsOf t (emitted_blocks c.in-Ok-emit.emitted)) c.in-Ok.ensures.program c.in-Ok-emit.ensures.runs;
  satisfied = c.in-Ok.ensures.satisfied;
}
