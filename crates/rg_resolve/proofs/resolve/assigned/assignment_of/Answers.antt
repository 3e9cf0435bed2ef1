use Rattle.std.proofs.lemmas.Result.{err_from_is_err_and}
use Rattle.rg_resolve.proofs.Assigned.{target_refused, value_refused, both_faultless}
use Rattle.rg_resolve.proofs.resolve.assigned.assignment_of.Goals as goal

pub returns-in_err-word-clause-fault : goal.returns-in_err-word-clause-fault
returns-in_err-word-clause-fault c =
    let p = err_from_is_err_and c.from_residual.result c.from_residual.ensures.1 in
    rw (p.1, p.2) (target_refused _ _ _ _ c.in_err-word.ensures.fault)

pub returns-in_err-value-clause-fault : goal.returns-in_err-value-clause-fault
returns-in_err-value-clause-fault c =
    let p = err_from_is_err_and c.from_residual-in_err-value.result c.from_residual-in_err-value.ensures.1 in
    rw (p.1, p.2) (value_refused _ _ _ _ _ c.requires c.in_ok-word.ensures.word c.width.ensures.exact c.in_ok-word.ensures.faultless _ _ c.in_err-value.ensures.fault)

pub returns-clause-faultless : goal.returns-clause-faultless
returns-clause-faultless c =
    both_faultless _ _ _ _ _ c.requires c.in_ok-word.ensures.word c.width.ensures.exact c.in_ok-word.ensures.faultless _ c.in_ok-value.ensures.tree
