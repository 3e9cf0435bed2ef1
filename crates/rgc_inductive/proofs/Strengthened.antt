-- A condition with a hypothesis more, and with another goal.
use Rattle.std.specs.Prelude.{◌≡◌, Bool, List, ◌∷◌}
use Rattle.rg_words.specs.Layout.{Word, widths_of}
use Rattle.rg_tree.specs.Trees.{Proposition}
use Rattle.rg_tree.specs.Typing.{IsTyped}
use Rattle.rg_tree.specs.ConditionTrees.{SecondState, ConditionTyped, condition_tree_of}

-- it is typed where its formulas are
pub strengthened_typed : (words : List Word) (hypotheses : List Proposition) (second : SecondState) (goal : Proposition) (alone : Bool) (stays : Bool) (given : Proposition) (goal' : Proposition) (alone' : Bool) (stays' : Bool) → ConditionTyped (condition_tree_of words hypotheses second goal alone stays) → IsTyped (widths_of words) given → IsTyped (widths_of words) goal' → ConditionTyped (condition_tree_of words (given ∷ hypotheses) second goal' alone' stays')
strengthened_typed words hypotheses second goal alone stays given goal' alone' stays' typed of_given of_goal = record {
  hypotheses = (of_given, typed.hypotheses);
  second = typed.second;
  goal = of_goal;
}
