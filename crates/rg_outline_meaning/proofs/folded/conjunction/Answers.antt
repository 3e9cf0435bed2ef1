use Rattle.std.proofs.Common.{map, take}
use Rattle.std.proofs.lemmas.List.{at_drop_all}
use Rattle.rg_tree.specs.View.{formula}
use Rattle.rg_outline_meaning.specs.Meanings.{IsConjunctionAfter, ended}
use Rattle.rg_outline_meaning.proofs.folded.conjunction.Goals as goal

pub returns : goal.returns
returns c =
    let fs = c.args.formulas.now in
    c.loop-place.invariant (formula c.loop-place.made)
    (rw (at_drop_all (λ rest. map formula rest) fs c.loop-place.place c.loop-place-test.false) (ended (map formula (take c.loop-place.place fs)) (formula c.loop-place.made)))
