use Rattle.std.proofs.lemmas.Result.{err_from_is_err_and}
use Rattle.rg_resolve.proofs.Specs.{name_refused, spec_refused, body_refused, part_faultless}
use Rattle.rg_resolve.proofs.resolve.part.part_of.Goals as goal

pub returns-then-has_part-clause-fault : goal.returns-then-has_part-clause-fault
returns-then-has_part-clause-fault c = name_refused _ _ _ _ _ c.text-name.ensures c.has_part.ensures _ _ c.if-has_part.true c.fault.ensures

pub returns-in_err-spec-clause-fault : goal.returns-in_err-spec-clause-fault
returns-in_err-spec-clause-fault c =
    let p = err_from_is_err_and c.from_residual.result c.from_residual.ensures.1 in
    rw (p.1, p.2) (spec_refused _ _ _ _ _ c.text-name.ensures c.has_part.ensures c.if-has_part.false _ _ c.in_err-spec.ensures.fault)

pub returns-in_err-body-clause-fault : goal.returns-in_err-body-clause-fault
returns-in_err-body-clause-fault c =
    let p = err_from_is_err_and c.from_residual-in_err-body.result c.from_residual-in_err-body.ensures.1 in
    rw (p.1, p.2) (body_refused _ _ _ _ _ c.text-name.ensures c.has_part.ensures c.if-has_part.false c.in_ok-spec.ensures.faultless _ _ (rw (← c.deref.ensures.value) c.in_err-body.ensures.fault))

pub returns-clause-faultless : goal.returns-clause-faultless
returns-clause-faultless c =
    part_faultless _ _ _ _ _ c.text-name.ensures c.has_part.ensures c.if-has_part.false c.in_ok-spec.ensures.faultless (rw (← c.deref.ensures.value) c.in_ok-body.ensures.faultless)
