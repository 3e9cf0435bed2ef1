use Rattle.std.proofs.Common.{◌≡◌, drop}
use Rattle.rg_floor.specs.Changes.{state_after}
use Rattle.rg_floor.proofs.closed.state_after.Given as goal

-- the rest of the changes lead to the same state
abbrev pub invariant-loop-change : goal.invariant-loop-change
invariant-loop-change l = record {
  widths : l.state.widths ≡ l.start.widths;
  rest : state_after l.state.values (drop l.change-index l.changes) ≡ state_after l.start.values l.changes;
}
