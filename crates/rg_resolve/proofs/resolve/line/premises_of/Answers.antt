use Rattle.std.proofs.lemmas.Result.{err_from_is_err_and}
use Rattle.rg_resolve.proofs.Lists.{done_start, done_step, done_refused, done_trees, done_faultless}
use Rattle.rg_resolve.proofs.Turns.{same_item}
use Rattle.rg_resolve.proofs.resolve.line.premises_of.Goals as goal

pub loop-token-init : goal.loop-token-init
loop-token-init c = rw c.new-numbers.ensures.items (done_start _ _ _ _)

pub returns-in_err-plain_number-clause-fault : goal.returns-in_err-plain_number-clause-fault
returns-in_err-plain_number-clause-fault c =
    let p = err_from_is_err_and c.from_residual.result c.from_residual.ensures.1 in
    rw (p.1, p.2) (done_refused _ _ _ _ _ _ _ c.loop-token-test.true (same_item _ _ _ c.loop-token-test.true) c.loop-token.invariant c.args.scope.now.file _ c.in_err-plain_number.ensures.fault)

pub loop-token-preserved : goal.loop-token-preserved
loop-token-preserved c =
    done_step _ _ _ _ _ _ _ c.loop-token-test.true (same_item _ _ _ c.loop-token-test.true) c.loop-token.invariant _ _ c.in_ok-plain_number.ensures.value c.in_ok-push.ensures.items c.in_ok-plain_number.ensures.faultless

pub returns-clause-numbers : goal.returns-clause-numbers
returns-clause-numbers c = done_trees _ _ _ _ _ _ c.loop-token-test.false c.loop-token.invariant

pub returns-clause-faultless : goal.returns-clause-faultless
returns-clause-faultless c = done_faultless _ _ _ _ _ _ c.loop-token-test.false c.loop-token.invariant
