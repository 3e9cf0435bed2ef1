use Rattle.std.proofs.Common.{◌≡◌, ◌↔◌, List, Bool, true, length, sym, subst}
use Rattle.rg_gates.specs.Circuit.{variable_count, AreGateValues, lit_value}
use Rattle.std.proofs.lemmas.Result.{IfOk-weaker}
use Rattle.rg_clauses.specs.ClauseLists.{Cnf, Satisfies, value_at}
use Rattle.rg_clauses.specs.Encoding.{encoding, IsSatisfiable, CanHold}
use Rattle.rg_clauses.proofs.Satisfiability.{encoding_values, encoding_satisfiable}
use Rattle.rg_clauses.proofs.Clauses.of_gates.Goals as goal

pub returns-clause-satisfiable : goal.returns-clause-satisfiable
returns-clause-satisfiable g c =
    let gates = c.args.gates.now in
    let P : Cnf → Type 0 = λ f. IsSatisfiable f.clauses ↔ CanHold gates c.args.assertion in
    IfOk-weaker c.encoded.result (λ f. f ≡ encoding gates c.args.assertion) P
    (λ f e. subst P (sym e) (encoding_satisfiable gates c.args.assertion c.encoded.ensures.circuit c.requires))
    c.encoded.ensures.exact

pub returns-clause-values : goal.returns-clause-values
returns-clause-values g c =
    let gates = c.args.gates.now in
    let P : Cnf → Type 0 = λ f. (values : List Bool) → length values ≡ variable_count gates → Satisfies (value_at values) f.clauses ↔ (AreGateValues gates values × (lit_value values c.args.assertion ≡ true)) in
    IfOk-weaker c.encoded.result (λ f. f ≡ encoding gates c.args.assertion) P
    (λ f e. subst P (sym e) (encoding_values gates c.args.assertion c.encoded.ensures.circuit c.requires))
    c.encoded.ensures.exact
