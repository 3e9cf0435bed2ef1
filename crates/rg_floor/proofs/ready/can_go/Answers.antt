use Rattle.rg_machine.specs.Machine.{block_of}
use Rattle.rg_floor.proofs.Readiness.{ready_means_steps, by_both}
use Rattle.rg_floor.proofs.ready.can_go.Goals as goal

pub returns-clause-can : goal.returns-clause-can
returns-clause-can c =
    let r = ready_means_steps (block_of c.args.config.now c.args.part) c.args.config.now.state in
    by_both _ _ (λ e. r.1 (c.can_step.ensures.can.0 e)) (λ e. c.can_step.ensures.can.1 (r.0 e))
