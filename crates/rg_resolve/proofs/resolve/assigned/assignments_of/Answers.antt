use Rattle.std.proofs.Common.{List, map, ◌∙◌, ap}
use Rattle.std.proofs.lemmas.Result.{err_from_is_err_and}
use Rattle.std.proofs.lemmas.List.{map-append}
use Rattle.rg_tree.specs.ConditionTrees.{assignment}
use Rattle.rg_tree.specs.declared.condition.Assign.{Assign}
use Rattle.rg_resolve.proofs.Lists.{done_start, done_step, done_refused, done_trees, done_faultless}
use Rattle.rg_resolve.proofs.resolve.assigned.assignments_of.Goals as goal

pub loop-one-init : goal.loop-one-init
loop-one-init c = rw c.new-assignments.ensures.items (done_start _ _ _ _)

pub returns-in_err-assignment_of-clause-fault : goal.returns-in_err-assignment_of-clause-fault
returns-in_err-assignment_of-clause-fault c =
    let p = err_from_is_err_and c.from_residual.result c.from_residual.ensures.1 in
    rw (p.1, p.2) (done_refused _ _ _ _ _ _ _ c.loop-one-test.true c.one-item.is c.loop-one.invariant c.args.scope.now.file _ c.in_err-assignment_of.ensures.fault)

pub loop-one-preserved : goal.loop-one-preserved
loop-one-preserved c =
    done_step _ _ _ _ _ _ _ c.loop-one-test.true c.one-item.is c.loop-one.invariant _ _ c.in_ok-assignment_of.ensures.tree (ap (λ (ts : List Assign). map assignment ts) c.in_ok-push.ensures.items ∙ map-append assignment _ _) c.in_ok-assignment_of.ensures.faultless

pub returns-clause-trees : goal.returns-clause-trees
returns-clause-trees c = done_trees _ _ _ _ _ _ c.loop-one-test.false c.loop-one.invariant

pub returns-clause-faultless : goal.returns-clause-faultless
returns-clause-faultless c = done_faultless _ _ _ _ _ _ c.loop-one-test.false c.loop-one.invariant
