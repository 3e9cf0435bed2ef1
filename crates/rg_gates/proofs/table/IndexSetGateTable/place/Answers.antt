use Rattle.rg_gates.specs.contracts.GatePartialEq.TheImpl.{eq-value}
use Rattle.rg_gates.proofs.SameGates.{same_from_eq, eq_from_same}
use Rattle.rg_gates.proofs.Places.{placed_at}
use Rattle.rg_gates.proofs.table.IndexSetGateTable.place.Goals as goal

pub returns-clause-placed : goal.returns-clause-placed
returns-clause-placed c =
    let gate = c.args.gate in
    rw (c.in_ok-index.ensures.index, c.in_ok-index.ensures.keys) (placed_at (eq-value.it gate) gate (same_from_eq gate) (eq_from_same gate) c.args.self.now.keys)
