use Rattle.std.proofs.Common.{◌≤◌}
use Rattle.rg_tree.specs.declared.tree.Formula.{size-Formula}
use Rattle.rg_tree.proofs.+tree.Given as goal

-- what is left is no deeper
abbrev pub invariant-tree::Formula::drop-loop-self :
    goal.invariant-tree::Formula::drop-loop-self
invariant-tree::Formula::drop-loop-self l = size-Formula l.self ≤ size-Formula l.initial.self
