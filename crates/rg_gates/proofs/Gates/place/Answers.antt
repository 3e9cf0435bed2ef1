use Rattle.std.proofs.Common.{◌+◌, ◌<◌, length, sym, ap, subst, arith}
use Rattle.rg_words.specs.declared.limits.TheConstants.{MOST_VARIABLES}
use Rattle.rg_gates.specs.Circuit.{Circuit, variable_count, IsOperand}
use Rattle.rg_gates.proofs.Places.{placed_formed}
use Rattle.rg_gates.proofs.Gates.place.Goals as goal

pub invariant_of-self-then-variables-lt-MOST_VARIABLES : goal.invariant_of-self-then-variables-lt-MOST_VARIABLES
invariant_of-self-then-variables-lt-MOST_VARIABLES g c =
    let before = c.self.inside in
    let old = g.T.Table.gates before.table in
    let gate = c.args.gate in
    let less : before.inputs + length old < MOST_VARIABLES = omega (arith, ap variable_count c.self.view_is) in
    let first = subst (λ (d : Circuit). IsOperand (variable_count d) gate.first) (sym c.self.view_is) c.requires.first in
    let second = subst (λ (d : Circuit). IsOperand (variable_count d) gate.second) (sym c.self.view_is) c.requires.second in
    placed_formed before.inputs old (g.T.Table.gates c.place.new.self) gate c.in_ok-place.field-0 c.in_ok-place.ensures.placed less c.self.invariant.1 first second c.self.invariant.2
