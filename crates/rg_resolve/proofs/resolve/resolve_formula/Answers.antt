use Rattle.rg_tree.specs.View.{formula}
use Rattle.rg_resolve.proofs.Whole.{tree_typed, tree_plain, tree_stands}
use Rattle.rg_resolve.proofs.Stands.{refused_stands_for_none}
use Rattle.std.proofs.lemmas.Result.{err_from_is_err_and}
use Rattle.rg_resolve.proofs.resolve.resolve_formula.Goals as goal

pub returns-clause-typed : goal.returns-clause-typed
returns-clause-typed c = tree_typed _ _ _ _ c.facts.ensures.layout c.in_ok-tree.ensures.tree

pub returns-clause-fits : goal.returns-clause-fits
returns-clause-fits c =
    let layout = c.facts.ensures.layout in
    c.typed_trees_fit.ensures.formulas _ layout (formula c.in_ok-tree.tree) (tree_typed _ _ _ _ layout c.in_ok-tree.ensures.tree)

pub returns-clause-primes : goal.returns-clause-primes
returns-clause-primes c = λ one. tree_plain _ _ _ (rw one at c.in_ok-tree.ensures.tree)

pub returns-clause-stands : goal.returns-clause-stands
returns-clause-stands c = tree_stands _ _ _ _ c.facts.ensures.layout c.in_ok-tree.ensures.tree

pub returns-in_err-tree-clause-refused : goal.returns-in_err-tree-clause-refused
returns-in_err-tree-clause-refused c =
    let p = err_from_is_err_and c.from_residual.result c.from_residual.ensures.1 in
    rw (p.1, p.2) (refused_stands_for_none _ _ _ _ _ c.in_err-tree.ensures.fault)
