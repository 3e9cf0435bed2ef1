use Rattle.rg_outline_meaning.proofs.Placed.{at_place}
use Rattle.rg_outline_meaning.proofs.names.Reader.kind.Goals as goal

pub returns-in-Some : goal.returns-in-Some
returns-in-Some c =
    let found = c.in-Some.ensures.lookup in
    (c.in-Some.expression.now.span, rw c.deref.ensures.value at (at_place c.deref.result.now c.args.index c.in-Some.expression.now found.1 found.3.0))
