use Rattle.std.proofs.Common.{◌≡◌, ◌+◌, ◌≤◌, drop}
use Rattle.rg_floor.specs.Inner.Counts.{made_by}
use Rattle.rg_floor.proofs.closed.count_by.Given as goal

-- those counted and those of the rest are all
abbrev pub invariant-loop-change : goal.invariant-loop-change
invariant-loop-change l = record {
  small : l.count ≤ l.change-index;
  rest : l.count + made_by l.who (drop l.change-index l.changes) ≡ made_by l.who l.changes;
}
