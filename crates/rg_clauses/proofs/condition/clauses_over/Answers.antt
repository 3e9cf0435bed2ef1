use Rattle.std.proofs.Common.{◌≡◌, length, ◌∙◌, sym, ap}
use Rattle.rg_gates.specs.Circuit.{Circuit, variable_count, lit_value}
use Rattle.rg_tree.specs.Conditions.{condition_tree}
use Rattle.rg_clauses.specs.ClauseLists.{Cnf}
use Rattle.rg_clauses.proofs.Failures.{fails_at, can_be_satisfied, unsatisfiable_holds}
use Rattle.rg_clauses.proofs.condition.clauses_over.Goals as goal

pub returns-clause-satisfiable : goal.returns-clause-satisfiable
returns-clause-satisfiable g c =
    let old = c.formula.ensures.builds.extends.inputs ∙ ap (λ (k : Circuit). k.inputs) c.requires in
    can_be_satisfied (condition_tree c.args.condition.now) c.formula.new.gates c.in_ok-literal.literal c.in_ok-literal.ensures.meaning c.of_gates.ensures.circuit old c.in_ok-literal.ensures.pairs
    c.negated.result c.in_ok-of_gates.field-0 c.negated.ensures c.in_ok-of_gates.ensures.satisfiable

pub returns-clause-unsatisfiable : goal.returns-clause-unsatisfiable
returns-clause-unsatisfiable g c = unsatisfiable_holds (condition_tree c.args.condition.now) c.in_ok-of_gates.field-0 (returns-clause-satisfiable g c)

pub returns-clause-fails : goal.returns-clause-fails
returns-clause-fails g c =
    λ values size sat.
    let count : length values ≡ variable_count c.formula.new.gates = size ∙ ap (λ (f : Cnf). f.variables) c.in_ok-of_gates.ensures.exact in
    let both = (c.in_ok-of_gates.ensures.values values count).0 sat in
    fails_at (condition_tree c.args.condition.now) c.formula.new.gates c.in_ok-literal.literal c.in_ok-literal.ensures.meaning values both.0 (ap (lit_value values) (sym c.negated.ensures) ∙ both.1)
