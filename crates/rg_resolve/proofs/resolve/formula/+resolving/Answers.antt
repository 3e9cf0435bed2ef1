use Rattle.std.proofs.Common.{arith}
use Rattle.std.proofs.lemmas.Result.{err_from_is_err_and}
use Rattle.rg_resolve.proofs.Parts.{of_compared}
use Rattle.rg_resolve.proofs.Chain.{steps_of-none, steps_of-push, no_items, spine_start, spine_step, done_step, done_end, done_smaller, spine_refused, done_refused}
use Rattle.rg_resolve.proofs.resolve.formula.+resolving.Goals as goal

pub chain_tree-loop-first-init : goal.chain_tree-loop-first-init
chain_tree-loop-first-init t c =
    rw (steps_of-push c.args.scope.now.source.now _ _ _ c.in_ok-push.ensures.items, c.new-links.ensures.items, steps_of-none) (spine_start _ _ _)

pub chain_tree-loop-first-preserved : goal.chain_tree-loop-first-preserved
chain_tree-loop-first-preserved t c =
    let spine = rw c.in-Joined.is at c.loop-first.invariant in
    rw (steps_of-push c.args.scope.now.source.now _ _ _ c.in_ok-push-2.ensures.items, c.deref-first.ensures, c.deref.ensures) (spine_step _ _ _ _ _ spine)

pub chain_tree-returns-in_err-tree : goal.chain_tree-returns-in_err-tree
chain_tree-returns-in_err-tree t c =
    let p = err_from_is_err_and c.from_residual-in_err-tree.result c.from_residual-in_err-tree.ensures.1 in
    rw (p.1, p.2) (record { tree = tt; fault = spine_refused _ _ _ _ _ _ _ c.loop-first.invariant c.in_err-tree.ensures.fault })

pub chain_tree-formula_tree-requires-in-Some :
    goal.chain_tree-formula_tree-requires-in-Some
chain_tree-formula_tree-requires-in-Some t c =
    let done = rw (steps_of-push c.args.scope.now.source.now _ _ _ c.in-Some.ensures.items) at c.loop-link.invariant in
    let smaller = done_smaller _ _ _ _ _ _ done in
    (omega (arith, smaller, c.decreases), tt)

pub chain_tree-returns-in_err-formula_tree :
    goal.chain_tree-returns-in_err-formula_tree
chain_tree-returns-in_err-formula_tree t c =
    let p = err_from_is_err_and c.from_residual-in_err-formula_tree.result c.from_residual-in_err-formula_tree.ensures.1 in
    let done = rw (steps_of-push c.args.scope.now.source.now _ _ _ c.in-Some.ensures.items) at c.loop-link.invariant in
    rw (p.1, p.2) (record { tree = tt; fault = done_refused _ _ _ _ _ _ _ _ done c.in_err-formula_tree.ensures.fault })

pub chain_tree-loop-link-preserved : goal.chain_tree-loop-link-preserved
chain_tree-loop-link-preserved t c =
    let done = rw (steps_of-push c.args.scope.now.source.now _ _ _ c.in-Some.ensures.items) at c.loop-link.invariant in
    rw (c.connective.ensures, c.in_ok-left.ensures.ok, c.in_ok-right.ensures.ok) (done_step _ _ _ _ _ _ _ done c.in_ok-formula_tree.ensures.tree)

pub chain_tree-returns : goal.chain_tree-returns
chain_tree-returns t c =
    let none = no_items c.loop-link.links.items (omega (arith, c.in_default-pop.ensures.cases.0, c.loop-link.links.ok)) in
    let done = rw (none, steps_of-none) at c.loop-link.invariant in
    record { tree = done_end _ _ _ _ done; fault = tt }

pub formula_tree-returns-in_ok-b-in-Compared-clause-tree :
    goal.formula_tree-returns-in_ok-b-in-Compared-clause-tree
formula_tree-returns-in_ok-b-in-Compared-clause-tree t c =
    let rest = rw c.after_first.ensures.exact at c.in_ok-b-in-Compared.ensures.tree in
    rw c.in-Compared.is (of_compared _ _ _ _ _ _ _ c.group_of-group.result c.group_of-group.ensures.exact c.in_ok-a-in-Compared.ensures.tree rest)
