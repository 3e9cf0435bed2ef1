use Rattle.std.proofs.lemmas.Result.{err_from_is_err_and}
use Rattle.rg_resolve.proofs.Lines.{lines_stand_as, lines_typed, refused_lines}
use Rattle.rg_resolve.proofs.resolve.resolve_derivation.Goals as goal

pub returns-in_err-lines-clause-refused : goal.returns-in_err-lines-clause-refused
returns-in_err-lines-clause-refused c =
    let p = err_from_is_err_and c.from_residual.result c.from_residual.ensures.1 in
    rw (p.1, p.2) (refused_lines _ _ _ _ c.in_err-lines.ensures.fault)

pub returns-clause-stand : goal.returns-clause-stand
returns-clause-stand c = lines_stand_as _ _ _ c.in_ok-lines.ensures.faultless c.in_ok-lines.ensures.trees

pub returns-clause-typed : goal.returns-clause-typed
returns-clause-typed c = lines_typed _ c.facts.ensures.layout _ _ c.in_ok-lines.ensures.faultless c.in_ok-lines.ensures.trees
