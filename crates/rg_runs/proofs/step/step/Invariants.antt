use Rattle.std.proofs.Common.{◌≡◌}
use Rattle.rg_tree.specs.ProgramView.{statement}
use Rattle.rg_tree.specs.TypedPrograms.{IsTypedStatement}
use Rattle.rg_tree.specs.Following.{step_of}
use Rattle.rg_runs.specs.Inner.Todo.{todo_of, AreTyped}
use Rattle.rg_runs.proofs.step.step.Given as goal

-- a step of what the sequences so far begin with is a step of the whole
abbrev pub invariant-loop-s : goal.invariant-loop-s
invariant-loop-s l = record {
  same : step_of (statement l.s) (todo_of l.todo.items) l.before.values l.after.values ≡ step_of (statement l.initial.s) (todo_of l.initial.todo.items) l.before.values l.after.values;
  typed : IsTypedStatement l.layout (statement l.s);
  rest : AreTyped l.layout (todo_of l.todo.items);
}
