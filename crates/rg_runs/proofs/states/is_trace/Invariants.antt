use Rattle.std.proofs.Common.{drop}
use Rattle.rg_words.specs.States.{IsState}
use Rattle.rg_tree.specs.Traces.{IsTraceOf}
use Rattle.rg_runs.specs.View.{steps}
use Rattle.rg_runs.proofs.states.is_trace.Given as goal

-- what is left is a trace from this state exactly where the whole is one
abbrev pub invariant-loop-step : goal.invariant-loop-step
invariant-loop-step l = record {
  state : IsState l.layout l.state.values;
  whole : IsTraceOf l.layout l.parts l.state.values (steps (drop l.step-index l.trace.steps.items)) → IsTraceOf l.layout l.parts l.trace.first.values (steps l.trace.steps.items);
  rest : IsTraceOf l.layout l.parts l.trace.first.values (steps l.trace.steps.items) → IsTraceOf l.layout l.parts l.state.values (steps (drop l.step-index l.trace.steps.items));
}
