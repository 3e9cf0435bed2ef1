use Rattle.std.proofs.Common.{◌≡◌}
use Rattle.rg_tree.specs.ProgramView.{statement, items}
use Rattle.rg_tree.specs.TypedPrograms.{IsTypedStatement}
use Rattle.rg_tree.specs.Following.{step_of}
use Rattle.rg_runs.specs.Inner.Todo.{todo_of}
use Rattle.rg_runs.proofs.Typed.{items_typed}
use Rattle.rg_runs.proofs.step.step.Goals as goal

pub loop-s-preserved : goal.loop-s-preserved
loop-s-preserved c =
    let typed : IsTypedStatement c.args.layout.now (statement c.loop-s.s.now) = c.loop-s.invariant.typed in
    let typed = rw c.in-Seq.is at typed in
    let same : step_of (statement c.loop-s.s.now) (todo_of c.loop-s.todo.items) c.args.before.now.values c.args.after.now.values ≡ step_of (statement c.args.s.now) (todo_of c.args.todo.now.items) c.args.before.now.values c.args.after.now.values = c.loop-s.invariant.same in
    let same = rw c.in-Seq.is at same in
    record {
      same = rw (c.deref-s.ensures, c.in_ok-put_items-in-Seq.ensures, c.deref-in-Seq.ensures) same;
      typed = rw c.deref-s.ensures typed.0;
      rest = rw (c.in_ok-put_items-in-Seq.ensures, c.deref-in-Seq.ensures) (items_typed c.args.layout.now (items c.in-Seq.rest.value) (todo_of c.loop-s.todo.items) typed.1 c.loop-s.invariant.rest);
    }
