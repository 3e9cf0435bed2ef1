use Rattle.std.proofs.lemmas.Result.{err_from_is_err_and}
use Rattle.rg_resolve.proofs.Turns.{taken_start, taken_step, taken_refused, taken_trees, taken_faultless, same_item}
use Rattle.rg_resolve.proofs.resolve.setting.word_values.Goals as goal

pub loop-i-init : goal.loop-i-init
loop-i-init c = rw c.new-values.ensures.items (taken_start _ _ _ _)

pub returns-in_err-word_value-clause-fault : goal.returns-in_err-word_value-clause-fault
returns-in_err-word_value-clause-fault c =
    let p = err_from_is_err_and c.from_residual.result c.from_residual.ensures.1 in
    rw (p.1, p.2) (taken_refused _ _ _ _ _ _ _ c.loop-i-test.true (same_item _ _ _ c.loop-i-test.true) c.loop-i.invariant c.args.scope.now.file _ c.in_err-word_value.ensures.fault)

pub loop-i-preserved : goal.loop-i-preserved
loop-i-preserved c =
    taken_step _ _ _ _ _ _ _ c.loop-i-test.true (same_item _ _ _ c.loop-i-test.true) c.loop-i.invariant _ _ c.in_ok-word_value.ensures.value c.in_ok-push.ensures.items c.in_ok-word_value.ensures.faultless

pub returns-clause-values : goal.returns-clause-values
returns-clause-values c = taken_trees _ _ _ _ _ _ c.loop-i-test.false c.loop-i.invariant

pub returns-clause-faultless : goal.returns-clause-faultless
returns-clause-faultless c = taken_faultless _ _ _ _ _ _ c.loop-i-test.false c.loop-i.invariant
