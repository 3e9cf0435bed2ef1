use Rattle.rg_runs.specs.View.{steps}
use Rattle.rg_runs.proofs.Words.{trace_state}
use Rattle.rg_runs.proofs.states.is_trace.Goals as goal

pub returns-then-not-is_state : goal.returns-then-not-is_state
returns-then-not-is_state c =
    (λ h. absurd (cc h), λ h. c.if-not-is_state.ensures.1 (trace_state c.args.layout.now c.args.parts c.args.trace.now.first.values (steps c.args.trace.now.steps.items) h))
