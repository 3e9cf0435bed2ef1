use Rattle.rg_gates.specs.contracts.GatePartialEq.TheImpl.{eq-value}
use Rattle.rg_gates.proofs.SameGates.{same_from_eq, eq_from_same}
use Rattle.rg_gates.proofs.Places.{found_at}
use Rattle.rg_gates.proofs.table.IndexSetGateTable.find.Goals as goal

pub returns : goal.returns
returns c =
    let gate = c.args.gate in
    rw c.get_index_of.ensures.index (found_at (eq-value.it gate) gate (same_from_eq gate) (eq_from_same gate) c.args.self.now.keys)
