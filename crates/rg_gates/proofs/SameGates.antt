-- the derived equality of gates is equality of values
use Rattle.std.proofs.Common.{◌≡◌, true, rules}
use Rattle.rg_gates.specs.declared.Gate.{Gate}
use Rattle.rg_gates.specs.contracts.GatePartialEq.TheImpl.{eq-value}

pub same_from_eq : (a b : Gate) → eq-value.it a b ≡ true → a ≡ b
same_from_eq a b h = search rules

pub eq_from_same : (a : Gate) → eq-value.it a a ≡ true
eq_from_same a = search rules
