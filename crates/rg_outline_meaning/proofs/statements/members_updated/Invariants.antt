use Rattle.std.proofs.Common.{◌≡◌, ◌∷◌, map, take}
use Rattle.rg_tree.specs.View.{expression}
use Rattle.rg_tree.specs.ConditionTrees.{assignment}
use Rattle.rg_outline_meaning.specs.Statements.{updated}
use Rattle.rg_outline_meaning.specs.View.{candidate}
use Rattle.rg_outline_meaning.proofs.statements.members_updated.Given as goal

-- those to the first and the members so far
abbrev pub invariant-loop-member : goal.invariant-loop-member
invariant-loop-member l = map assignment l.step.items ≡ map (updated (expression l.index) (expression l.value)) (candidate l.fn.first ∷ map candidate (take l.member-index l.rest))
