use Rattle.std.proofs.Common.{map}
use Rattle.rg_tree.specs.ConditionTrees.{assignment}
use Rattle.rg_syntax.specs.Written.{assigned}
use Rattle.rg_resolve.specs.Programs.{assigned_faults}
use Rattle.rg_resolve.specs.Inner.ProgramTrees.{assignment_tree}
use Rattle.rg_resolve.proofs.Lists.{AreDone, items_from}
use Rattle.rg_resolve.proofs.resolve.assigned.assignments_of.Given as goal

abbrev pub invariant-loop-one : goal.invariant-loop-one
invariant-loop-one l =
    let src = l.scope.source.now in
    let words = l.scope.layout.now in
    AreDone (assignment_tree words) (assigned_faults words) (map (assigned src) l.written) (items_from (assigned src) l.written l.one-index) (map assignment l.assignments.items)
