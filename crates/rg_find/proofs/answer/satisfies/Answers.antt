use Rattle.std.proofs.Common.{ℤ, List, [], get_or, subst, below_more, arith, refl}
use Rattle.rg_clauses.specs.ClauseLists.{SatisfiesClause, value_at}
use Rattle.rg_find.proofs.Values.{all_of}
use Rattle.rg_find.proofs.answer.satisfies.Goals as goal

pub returns : goal.returns
returns c = λ _.
    all_of (SatisfiesClause (value_at c.args.values.now)) c.args.clauses.now.clauses
    (λ k lt. c.loop-index.invariant k (omega (arith, c.len-index-end.ensures.value)))

pub loop-index-preserved : goal.loop-index-preserved
loop-index-preserved c =
    let P : List ℤ → Type 0 = SatisfiesClause (value_at c.args.values.now) in
    below_more (λ k. P (get_or c.args.clauses.now.clauses k [])) c.loop-index.index c.loop-index.invariant
    (subst P c.literals.ensures.value (c.if-not-satisfies_clause.ensures refl))
