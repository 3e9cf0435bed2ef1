-- A condition as one formula over its words: a plain word is its value in the first state, a primed word its value in the second.
use Rattle.std.specs.Prelude.{ℕ, List, [], ◌++◌, length, map, cond}
use Rattle.rg_words.specs.declared.operators.Connective.TheVariants.{Or}
use Rattle.rg_tree.specs.Trees.{Expression, Proposition, connected}
use Rattle.rg_tree.specs.ConditionTrees.{SecondState, after, ConditionTree}
use Rattle.rgc_answers.specs.Replaced.{formula_over}
use Rattle.rgc_answers.specs.Rows.{plain_row, assigned_row, moved_row, before_row, second_row}
use Rattle.rgc_answers.specs.Equations.{equations, conjunction, implied}

-- what is known of the second state: a word that is assigned to has the value that the assignments give it
abbrev pub step_of : SecondState → ℕ → List Proposition
step_of (after act) n = equations (moved_row act (plain_row n)) (assigned_row act (plain_row n))
step_of _ n = []

-- the hypotheses, and what is known of the second state
abbrev pub given_of : ConditionTree → List Proposition
given_of c =
    let n = length c.words in
    map (formula_over (plain_row n) (before_row c.second n)) c.hypotheses ++ step_of c.second n

-- a goal that may also be met by a step that changes nothing
abbrev pub met_of : ConditionTree → List Proposition → Proposition → Proposition
met_of c unchanged goal = cond c.or_no_change (connected Or goal (conjunction unchanged)) goal

-- the goal over rows of the two states: it is read on both, or on the second alone
abbrev pub goal_over : ConditionTree → List Expression → List Expression → Proposition
goal_over c plain second = met_of c (equations second plain) (formula_over (cond c.alone second plain) second c.goal)

-- the goal of a condition
abbrev pub goal_of : ConditionTree → Proposition
goal_of c =
    let n = length c.words in
    goal_over c (plain_row n) (second_row c.second n)

-- the whole condition: the hypotheses give the goal
abbrev pub formula_of : ConditionTree → Proposition
formula_of c = implied (given_of c) (goal_of c)
