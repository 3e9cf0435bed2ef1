-- Conditions of the code as conditions.
pub use Rattle.rg_tree.specs.ConditionTrees.{SecondState, same, free, after, ConditionTree, condition_tree_of, assignment, second_state, assigned, before, reached, all_hold, are_same, goal_holds, condition_holds, ConditionHolds, shown, AllFit, AssignmentsFit, SecondFits, ConditionFits, AllTyped, AssignmentsTyped, SecondTyped, ConditionTyped}
use Rattle.std.specs.Prelude.{map}
use Rattle.rg_tree.specs.declared.condition.Condition.{Condition}
use Rattle.rg_tree.specs.View.{formula}

-- a condition's condition
abbrev pub condition_tree : Condition → ConditionTree
condition_tree c = condition_tree_of c.layout (map formula c.hypotheses.items) (second_state c.second) (formula c.goal) c.alone c.or_no_change
