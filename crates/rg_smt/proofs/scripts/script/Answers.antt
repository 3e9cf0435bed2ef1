use Rattle.std.proofs.Common.{◌≡◌, ◌∙◌, ◌++◌, ℕ, List, codes, length, map, ap}
use Rattle.std.specs.String.{string_bytes}
use Rattle.rg_tree.specs.ConditionTrees.{second_state}
use Rattle.rg_tree.specs.Conditions.{condition_tree}
use Rattle.rg_tree.specs.View.{formula}
use Rattle.rg_smt.specs.Scripts.{before, declarations, assertions, step_definitions, goal_text}
use Rattle.rg_smt.proofs.Pushed.{then_pushed}
use Rattle.rg_smt.proofs.scripts.script.Goals as goal

pub returns : goal.returns
returns c =
    let words = c.args.c.now.layout in
    let second = second_state c.args.c.now.second in
    let declared = declarations words (before second) 0 (length words) in
    let given = assertions words (before second) (map formula c.args.c.now.hypotheses.items) in
    let step = step_definitions words second in
    let goal_is = goal_text (condition_tree c.args.c.now) in
    let end = codes "))\n(check-sat)\n" in
    let from_goal = codes "(assert (not " ++ (goal_is ++ end) in
    let whole : List ℕ = codes "(set-logic QF_BV)\n" ++ (declared ++ (given ++ (step ++ from_goal))) in
    let slice = rw c.as_slice.ensures.value at c.in_ok-push_assertions.ensures in
    then_pushed (codes "(set-logic QF_BV)\n") (declared ++ (given ++ (step ++ from_goal))) _ _ _ c.in_ok-push_str.ensures.bytes
    (then_pushed declared (given ++ (step ++ from_goal)) _ _ _ (rw c.before-2.ensures at c.in_ok-push_declarations.ensures)
    (then_pushed given (step ++ from_goal) _ _ _ (rw c.before-3.ensures at slice)
    (then_pushed step from_goal _ _ _ c.in_ok-push_step.ensures
    (then_pushed (codes "(assert (not ") (goal_is ++ end) _ _ _ c.in_ok-push_str-2.ensures.bytes
    (then_pushed goal_is end _ _ _ c.in_ok-push_goal.ensures c.in_ok-push_str-3.ensures.bytes)))))
    ∙ ap (λ (t : List ℕ). t ++ whole) c.new-text.ensures.bytes
