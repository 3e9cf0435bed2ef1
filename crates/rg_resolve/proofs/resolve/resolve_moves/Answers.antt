use Rattle.std.proofs.lemmas.Result.{err_from_is_err_and}
use Rattle.rg_resolve.proofs.Set.{moves_stand_as, moves_change, refused_moves}
use Rattle.rg_resolve.proofs.resolve.resolve_moves.Goals as goal

pub returns-in_err-moves-clause-refused : goal.returns-in_err-moves-clause-refused
returns-in_err-moves-clause-refused c =
    let p = err_from_is_err_and c.from_residual.result c.from_residual.ensures.1 in
    rw (p.1, p.2) (refused_moves _ _ _ _ c.in_err-moves.ensures.fault)

pub returns-clause-stand : goal.returns-clause-stand
returns-clause-stand c = moves_stand_as _ _ _ c.in_ok-moves.ensures.faultless c.in_ok-moves.ensures.trees

pub returns-clause-changes : goal.returns-clause-changes
returns-clause-changes c = moves_change _ _ _ (moves_stand_as _ _ _ c.in_ok-moves.ensures.faultless c.in_ok-moves.ensures.trees)
