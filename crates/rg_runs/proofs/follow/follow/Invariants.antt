use Rattle.std.proofs.Common.{◌≡◌, ℕ, [], ◌∷◌, drop}
use Rattle.rg_tree.specs.ProgramView.{statement}
use Rattle.rg_tree.specs.Traces.{IsTraceOf, view}
use Rattle.rg_tree.specs.Following.{followed}
use Rattle.rg_runs.specs.View.{steps}
use Rattle.rg_runs.specs.Inner.Todo.{todo_of, AreTyped}
use Rattle.rg_runs.proofs.follow.follow.Given as goal

-- following what is left from this state is following the whole
abbrev pub invariant-loop-step : goal.invariant-loop-step
invariant-loop-step l = record {
  typed : AreTyped l.layout (todo_of l.todo.items);
  trace : (n : ℕ) × IsTraceOf l.layout n l.state.values (steps (drop l.step-index l.trace.steps.items));
  same : followed (todo_of l.todo.items) l.state.values (view l.number (steps (drop l.step-index l.trace.steps.items))) ≡ followed (statement l.body ∷ []) l.trace.first.values (view l.number (steps l.trace.steps.items));
}
