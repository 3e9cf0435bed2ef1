use Rattle.std.proofs.Common.{◌+◌, vec_len}
use Rattle.rg_tree.specs.View.{formula}
use Rattle.rg_syntax.specs.Written.{term, claim, joined}
use Rattle.rg_resolve.proofs.Chain.{term_size, claim_size, steps_of, IsSpine, IsDone}
use Rattle.rg_resolve.proofs.resolve.formula.+resolving.Given as goal

abbrev pub decreases-expression_tree : goal.decreases-expression_tree
decreases-expression_tree l = term_size (term l.scope.now.source.now l.e.now)

abbrev pub decreases-formula_tree : goal.decreases-formula_tree
decreases-formula_tree l = claim_size (claim l.scope.now.source.now l.f.now) + 1

abbrev pub decreases-chain_tree : goal.decreases-chain_tree
decreases-chain_tree l = claim_size (claim l.scope.now.source.now l.f.now) + claim_size (claim l.scope.now.source.now l.g.now) + 2

abbrev pub invariant-chain_tree-loop-first : goal.invariant-chain_tree-loop-first
invariant-chain_tree-loop-first l =
    let src = l.scope.source.now in
    IsSpine (joined l.fn.junction (claim src l.f) (claim src l.g)) (claim src l.first) (steps_of src l.links.items)

abbrev pub invariant-chain_tree-loop-link : goal.invariant-chain_tree-loop-link
invariant-chain_tree-loop-link l =
    let src = l.scope.source.now in
    IsDone l.scope.layout.now l.scope.one_state (joined l.fn.junction (claim src l.f) (claim src l.g)) (formula l.tree) (steps_of src l.links.items)

abbrev pub decreases-chain_tree-loop-link : goal.decreases-chain_tree-loop-link
decreases-chain_tree-loop-link l = vec_len l.links
