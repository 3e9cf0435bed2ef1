use Rattle.std.proofs.Common.{◌≡◌, ◌≤◌, map, drop}
use Rattle.rg_tree.specs.ConditionTrees.{assignment}
use Rattle.rg_smt.specs.Symbols.{last_after, last_to}
use Rattle.rg_smt.proofs.symbols.last_to.Given as goal

-- the last of those so far, and then of the rest
abbrev pub invariant-loop-place : goal.invariant-loop-place
invariant-loop-place l = last_after l.word (map assignment (drop l.place l.act)) l.place l.last ≡ last_to l.word (map assignment l.act)
