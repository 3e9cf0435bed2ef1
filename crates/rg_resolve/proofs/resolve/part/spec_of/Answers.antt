use Rattle.std.proofs.Common.{false, refl}
use Rattle.std.proofs.lemmas.Result.{err_from_is_err_and}
use Rattle.rg_resolve.proofs.Specs.{pre_refused, rely_refused, guar_refused, post_refused, spec_faultless}
use Rattle.rg_resolve.proofs.resolve.part.spec_of.Goals as goal

pub returns-in_err-pre-clause-fault : goal.returns-in_err-pre-clause-fault
returns-in_err-pre-clause-fault c =
    let p = err_from_is_err_and c.from_residual.result c.from_residual.ensures.1 in
    rw (p.1, p.2) (pre_refused _ _ _ false c.requires refl _ _ c.in_err-pre.ensures.fault)

pub returns-in_err-rely-clause-fault : goal.returns-in_err-rely-clause-fault
returns-in_err-rely-clause-fault c =
    let p = err_from_is_err_and c.from_residual-in_err-rely.result c.from_residual-in_err-rely.ensures.1 in
    let fault = rw c.of_two_states-relations.ensures at c.in_err-rely.ensures.fault in
    rw (p.1, p.2) (rely_refused _ _ _ false c.requires refl _ c.in_ok-pre.ensures.tree _ _ fault)

pub returns-in_err-guar-clause-fault : goal.returns-in_err-guar-clause-fault
returns-in_err-guar-clause-fault c =
    let p = err_from_is_err_and c.from_residual-in_err-guar.result c.from_residual-in_err-guar.ensures.1 in
    let rely = rw c.of_two_states-relations.ensures at c.in_ok-rely.ensures.tree in
    let fault = rw c.of_two_states-relations.ensures at c.in_err-guar.ensures.fault in
    rw (p.1, p.2) (guar_refused _ _ _ false c.requires refl _ c.in_ok-pre.ensures.tree _ rely _ _ fault)

pub returns-in_err-post-clause-fault : goal.returns-in_err-post-clause-fault
returns-in_err-post-clause-fault c =
    let p = err_from_is_err_and c.from_residual-in_err-post.result c.from_residual-in_err-post.ensures.1 in
    let rely = rw c.of_two_states-relations.ensures at c.in_ok-rely.ensures.tree in
    let guar = rw c.of_two_states-relations.ensures at c.in_ok-guar.ensures.tree in
    rw (p.1, p.2) (post_refused _ _ _ false c.requires refl _ c.in_ok-pre.ensures.tree _ rely _ guar _ _ c.in_err-post.ensures.fault)

pub returns-clause-faultless : goal.returns-clause-faultless
returns-clause-faultless c =
    let rely = rw c.of_two_states-relations.ensures at c.in_ok-rely.ensures.tree in
    let guar = rw c.of_two_states-relations.ensures at c.in_ok-guar.ensures.tree in
    spec_faultless _ _ _ false c.requires refl _ c.in_ok-pre.ensures.tree _ rely _ guar _ c.in_ok-post.ensures.tree
