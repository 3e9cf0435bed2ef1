use Rattle.std.proofs.Common.{subst, sym}
use Rattle.std.specs.Prelude.{option_map}
use Rattle.std.proofs.lemmas.Result.{on_ok_weaker}
use Rattle.rg_clauses.specs.ClauseLists.{Cnf}
use Rattle.rg_hints.specs.Proved.{AreClosedBy}
use Rattle.rg_hints.specs.Placed.{text_of}
use Rattle.rg_hints.proofs.proof.prove_condition.Goals as goal

pub returns-clause-holds : goal.returns-clause-holds
returns-clause-holds g c = on_ok_weaker c.close.result c.in-Ok.ensures.unsatisfiable.0 c.close.ensures.unsatisfiable

pub returns-clause-only : goal.returns-clause-only
returns-clause-only g c =
    λ p. c.close.ensures.only (subst (λ (f : Cnf). AreClosedBy f.clauses (option_map text_of c.args.section)) (sym c.in-Ok.ensures.exact) p.closed)
