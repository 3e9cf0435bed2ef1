use Rattle.std.proofs.Common.{List, map, ◌∙◌, ap, refl, arith}
use Rattle.std.proofs.lemmas.Result.{err_from_is_err_and}
use Rattle.std.proofs.lemmas.List.{map-append}
use Rattle.rg_tree.specs.ProgramView.{statement}
use Rattle.rg_tree.specs.declared.statement.Stmt.{Stmt}
use Rattle.rg_resolve.proofs.Lists.{done_start, done_step, done_refused, done_trees, done_faultless}
use Rattle.rg_syntax.proofs.Sizes.{first_smaller, second_smaller, body_smaller}
use Rattle.rg_resolve.proofs.Blocks.{first_refused, second_refused, if_faultless, if_tree, body_refused, while_faultless, while_tree, listed_refused, listed_faultless, listed_trees, item_smaller}
use Rattle.rg_resolve.proofs.resolve.block.+blocks.Goals as goal

pub statement_of-statements_of-requires : goal.statement_of-statements_of-requires
statement_of-statements_of-requires t c =
    let smaller = first_smaller c.args.scope.now.source.now c.args.s.now _ _ _ _ c.in-If.is c.deref-in-If.result.now _ c.deref-in-If.ensures.value refl in
    (omega (arith, smaller, c.decreases), c.requires)

pub statement_of-returns-in_err-statements_of-in-If-clause-fault :
    goal.statement_of-returns-in_err-statements_of-in-If-clause-fault
statement_of-returns-in_err-statements_of-in-If-clause-fault t c =
    let p = err_from_is_err_and c.from_residual-in_err-statements_of-in-If.result c.from_residual-in_err-statements_of-in-If.ensures.1 in
    rw (p.1, p.2) (first_refused _ _ _ _ _ _ c.in-If.is _ _ c.deref-in-If.ensures.value refl _ _ c.requires _ c.in_ok-test-in-If.ensures.tree _ _ c.in_err-statements_of-in-If.ensures.fault)

pub statement_of-statements_of-requires-in-If : goal.statement_of-statements_of-requires-in-If
statement_of-statements_of-requires-in-If t c =
    let smaller = second_smaller c.args.scope.now.source.now c.args.s.now _ _ _ _ c.in-If.is _ c.deref-in-If-2.result.now refl c.deref-in-If-2.ensures.value in
    (omega (arith, smaller, c.decreases), c.requires)

pub statement_of-returns-in_err-statements_of-in-If-2-clause-fault :
    goal.statement_of-returns-in_err-statements_of-in-If-2-clause-fault
statement_of-returns-in_err-statements_of-in-If-2-clause-fault t c =
    let p = err_from_is_err_and c.from_residual-in_err-statements_of-in-If-2.result c.from_residual-in_err-statements_of-in-If-2.ensures.1 in
    rw (p.1, p.2) (second_refused _ _ _ _ _ _ c.in-If.is _ _ c.deref-in-If.ensures.value c.deref-in-If-2.ensures.value _ _ c.requires _ c.in_ok-test-in-If.ensures.tree c.in_ok-statements_of-in-If.ensures.faultless _ _ c.in_err-statements_of-in-If-2.ensures.fault)

pub statement_of-statements_of-requires-in-While :
    goal.statement_of-statements_of-requires-in-While
statement_of-statements_of-requires-in-While t c =
    let smaller = body_smaller c.args.scope.now.source.now c.args.s.now _ _ _ c.in-While.is c.deref-in-While.result.now c.deref-in-While.ensures.value in
    (omega (arith, smaller, c.decreases), c.requires)

pub statement_of-returns-in_err-statements_of-in-While-clause-fault :
    goal.statement_of-returns-in_err-statements_of-in-While-clause-fault
statement_of-returns-in_err-statements_of-in-While-clause-fault t c =
    let p = err_from_is_err_and c.from_residual-in_err-statements_of-in-While.result c.from_residual-in_err-statements_of-in-While.ensures.1 in
    rw (p.1, p.2) (body_refused _ _ _ _ _ c.in-While.is _ c.deref-in-While.ensures.value _ _ c.requires _ c.in_ok-test-in-While.ensures.tree _ _ c.in_err-statements_of-in-While.ensures.fault)

pub statement_of-returns-in_ok-new-in-If-clause-tree :
    goal.statement_of-returns-in_ok-new-in-If-clause-tree
statement_of-returns-in_ok-new-in-If-clause-tree t c =
    rw (c.in_ok-first-in-If-2.ensures.ok, c.in_ok-new-in-If.ensures.ok) (if_tree _ _ _ _ _ _ c.in-If.is _ _ c.deref-in-If.ensures.value c.deref-in-If-2.ensures.value _ _ c.requires _ c.in_ok-test-in-If.ensures.tree _ _ _ _ c.in_ok-first-in-If.ensures c.in_ok-second-in-If.ensures c.in_ok-statements_of-in-If.ensures.trees c.in_ok-statements_of-in-If-2.ensures.trees)

pub statement_of-returns-in_ok-new-in-If-clause-faultless :
    goal.statement_of-returns-in_ok-new-in-If-clause-faultless
statement_of-returns-in_ok-new-in-If-clause-faultless t c =
    if_faultless _ _ _ _ _ _ c.in-If.is _ _ c.deref-in-If.ensures.value c.deref-in-If-2.ensures.value _ _ c.requires _ c.in_ok-test-in-If.ensures.tree c.in_ok-statements_of-in-If.ensures.faultless c.in_ok-statements_of-in-If-2.ensures.faultless

pub statement_of-returns-in_ok-new-in-While-clause-tree :
    goal.statement_of-returns-in_ok-new-in-While-clause-tree
statement_of-returns-in_ok-new-in-While-clause-tree t c =
    rw c.in_ok-new-in-While.ensures.ok (while_tree _ _ _ _ _ c.in-While.is _ c.deref-in-While.ensures.value _ _ c.requires _ c.in_ok-test-in-While.ensures.tree _ _ c.in_ok-body-in-While.ensures c.in_ok-statements_of-in-While.ensures.trees)

pub statement_of-returns-in_ok-new-in-While-clause-faultless :
    goal.statement_of-returns-in_ok-new-in-While-clause-faultless
statement_of-returns-in_ok-new-in-While-clause-faultless t c =
    while_faultless _ _ _ _ _ c.in-While.is _ c.deref-in-While.ensures.value _ _ c.requires _ c.in_ok-test-in-While.ensures.tree c.in_ok-statements_of-in-While.ensures.faultless

pub statements_of-loop-one-init : goal.statements_of-loop-one-init
statements_of-loop-one-init t c = rw c.new-statements.ensures.items (done_start _ _ _ _)

pub statements_of-statement_of-requires : goal.statements_of-statement_of-requires
statements_of-statement_of-requires t c =
    let smaller = item_smaller c.args.scope.now.source.now c.args.scope.now.layout.now c.args.items.now _ _ c.loop-one-test.true c.one-item.is in
    (omega (arith, smaller, c.decreases), c.requires)

pub statements_of-returns-in_err-statement_of-clause-fault :
    goal.statements_of-returns-in_err-statement_of-clause-fault
statements_of-returns-in_err-statement_of-clause-fault t c =
    let p = err_from_is_err_and c.from_residual.result c.from_residual.ensures.1 in
    rw (p.1, p.2) (listed_refused c.args.scope.now.source.now c.args.scope.now.layout.now c.args.items.now _ _ (done_refused _ _ _ _ _ _ _ c.loop-one-test.true c.one-item.is c.loop-one.invariant c.args.scope.now.file _ c.in_err-statement_of.ensures.fault))

pub statements_of-loop-one-preserved : goal.statements_of-loop-one-preserved
statements_of-loop-one-preserved t c =
    done_step _ _ _ _ _ _ _ c.loop-one-test.true c.one-item.is c.loop-one.invariant _ _ c.in_ok-statement_of.ensures.tree (ap (λ (ts : List Stmt). map statement ts) c.in_ok-push.ensures.items ∙ map-append statement _ _) c.in_ok-statement_of.ensures.faultless

pub statements_of-returns-clause-trees : goal.statements_of-returns-clause-trees
statements_of-returns-clause-trees t c = listed_trees c.args.scope.now.source.now c.args.scope.now.layout.now c.args.items.now _ (done_trees _ _ _ _ _ _ c.loop-one-test.false c.loop-one.invariant)

pub statements_of-returns-clause-faultless : goal.statements_of-returns-clause-faultless
statements_of-returns-clause-faultless t c = listed_faultless c.args.scope.now.source.now c.args.scope.now.layout.now c.args.items.now (done_faultless _ _ _ _ _ _ c.loop-one-test.false c.loop-one.invariant)
