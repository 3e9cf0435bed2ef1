use Rattle.rg_hints.proofs.ProofSteps.{empty_unsatisfiable}
use Rattle.rg_hints.proofs.proof.close.Goals as goal

pub returns-then-has_empty_clause-clause-unsatisfiable : goal.returns-then-has_empty_clause-clause-unsatisfiable
returns-then-has_empty_clause-clause-unsatisfiable g c = empty_unsatisfiable c.args.clauses.now.clauses (c.has_empty_clause.ensures.answer.0 c.if-has_empty_clause.true)
