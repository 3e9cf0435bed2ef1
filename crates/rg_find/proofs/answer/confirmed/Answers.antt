use Rattle.std.proofs.Common.{rules, refl}
use Rattle.rg_find.proofs.Values.{satisfied_by}
use Rattle.rg_find.proofs.answer.confirmed.Goals as goal

pub returns-then-satisfies-clause-found : goal.returns-then-satisfies-clause-found
returns-then-satisfies-clause-found c =
    (search rules, satisfied_by c.in-Values.values.items c.deref.result.now c.args.clauses.now.clauses c.deref.ensures.value (c.if-satisfies.ensures refl))
