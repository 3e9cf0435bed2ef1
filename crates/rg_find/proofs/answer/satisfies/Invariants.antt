use Rattle.std.proofs.Common.{ℕ, ◌<◌, [], get_or}
use Rattle.rg_clauses.specs.ClauseLists.{SatisfiesClause, value_at}
use Rattle.rg_find.proofs.answer.satisfies.Given as goal

-- the clauses so far are satisfied
abbrev pub invariant-loop-index : goal.invariant-loop-index
invariant-loop-index l = (k : ℕ) → k < l.index → SatisfiesClause (value_at l.values) (get_or l.clauses.clauses k [])
