use Rattle.std.proofs.Common.{map, take}
use Rattle.rg_tree.specs.ConditionTrees.{assignment}
use Rattle.rg_outline_meaning.specs.Statements.{StepStandsFor}
use Rattle.rg_outline_meaning.specs.View.{outline, words, names}
use Rattle.rg_outline_meaning.proofs.names.Reader.assignments.Given as goal

-- those so far
abbrev pub invariant-loop-assignment : goal.invariant-loop-assignment
invariant-loop-assignment l = StepStandsFor (outline l.self) (words l.self) (names l.self l.names) (take l.assignment-index l.assignment-items) (map assignment l.step.items)
