-- The operations of a tree leave its value.
use Rattle.std.proofs.Common.{◌≡◌, ℕ, Bool, true, false, not, List, [], ◌∷◌, ◌++◌, cond, map, Some, None, refl, ap, ◌∙◌}
use Rattle.std.specs.Prelude.{Option, option_and_then, option_map, slice_set}
use Rattle.rg_tree.specs.Trees.{Expression, Proposition, number, word, next_word, inverse, binary, shifted, choice, truth, negation, connected, compared}
use Rattle.rg_tree.specs.Meaning.{joined, value_of}
use Rattle.rg_tree.specs.Traces.{State, holds_at}
use Rattle.rg_tree.specs.Trees.{Assignment}
use Rattle.rg_tree.specs.ConditionTrees.{assigned}
use Rattle.rg_code.specs.declared.operation.Operation.{Operation}
use Rattle.rg_code.specs.declared.operation.Operation.TheVariants.{Inverse, Binary, Shifted, Pick, Compare, Not, Connect}
use Rattle.rg_code.specs.Operations.{number_of_truth, truth_of, after_operation, after_operations, alone, left_by, reported_by, expression_operations, formula_operations, OperationsLeaveValues}
use Rattle.rg_code.specs.Code.{stored, store_of}

-- what goes on in two ways from a stack that may be missing
both_ways : (f g : List ℕ → Option (List ℕ)) → ((x : List ℕ) → f x ≡ g x) → (o : Option (List ℕ)) → option_and_then f o ≡ option_and_then g o
both_ways f g h None = refl
both_ways f g h (Some x) = h x

in_turn : (f g : List ℕ → Option (List ℕ)) (o : Option (List ℕ)) → option_and_then (λ x. option_and_then g (f x)) o ≡ option_and_then g (option_and_then f o)
in_turn f g None = refl
in_turn f g (Some x) = refl

after-append : (s : State) (xs ys : List Operation) (stack : List ℕ) → after_operations s (xs ++ ys) stack ≡ option_and_then (λ next. after_operations s ys next) (after_operations s xs stack)
after-append s [] ys stack = refl
after-append s (x ∷ xs) ys stack =
    both_ways (λ next. after_operations s (xs ++ ys) next) (λ next. option_and_then (λ last. after_operations s ys last) (after_operations s xs next)) (λ next. after-append s xs ys next) (after_operation s x stack)
    ∙ in_turn (λ next. after_operations s xs next) (λ last. after_operations s ys last) (after_operation s x stack)

-- operations that leave this stack, and then more
pub after_then : (s : State) (xs ys : List Operation) (stack next : List ℕ) → after_operations s xs stack ≡ Some next → after_operations s (xs ++ ys) stack ≡ after_operations s ys next
after_then s xs ys stack next h = after-append s xs ys stack ∙ ap (λ o. option_and_then (λ next'. after_operations s ys next') o) h

truth-number : (b : Bool) → truth_of (number_of_truth b) ≡ b
truth-number true = refl
truth-number false = refl

mutual
  expression_leaves : (e : Expression) (s : State) (stack : List ℕ) → after_operations s (expression_operations e) stack ≡ Some (value_of e s s ∷ stack)
  expression_leaves (number w n) s stack = refl
  expression_leaves (word k) s stack = refl
  expression_leaves (next_word k) s stack = refl
  expression_leaves (inverse w a) s stack = after_then s (expression_operations a) (Inverse w ∷ []) stack _ (expression_leaves a s stack)
  expression_leaves (binary o w a b) s stack =
      after_then s (expression_operations a) (expression_operations b ++ Binary o w ∷ []) stack _ (expression_leaves a s stack)
      ∙ after_then s (expression_operations b) (Binary o w ∷ []) _ _ (expression_leaves b s (value_of a s s ∷ stack))
  expression_leaves (shifted d w a k) s stack = after_then s (expression_operations a) (Shifted d w k ∷ []) stack _ (expression_leaves a s stack)
  expression_leaves (choice f a b) s stack =
      let under = number_of_truth (holds_at f s) ∷ stack in
      after_then s (formula_operations f) (expression_operations a ++ (expression_operations b ++ Pick ∷ [])) stack _ (formula_leaves f s stack)
      ∙ after_then s (expression_operations a) (expression_operations b ++ Pick ∷ []) _ _ (expression_leaves a s under)
      ∙ after_then s (expression_operations b) (Pick ∷ []) _ _ (expression_leaves b s (value_of a s s ∷ under))
      ∙ ap (λ v. Some (cond v (value_of a s s) (value_of b s s) ∷ stack)) (truth-number (holds_at f s))

  formula_leaves : (f : Proposition) (s : State) (stack : List ℕ) → after_operations s (formula_operations f) stack ≡ Some (number_of_truth (holds_at f s) ∷ stack)
  formula_leaves (truth b) s stack = refl
  formula_leaves (negation f) s stack =
      after_then s (formula_operations f) (Not ∷ []) stack _ (formula_leaves f s stack)
      ∙ ap (λ v. Some (number_of_truth (not v) ∷ stack)) (truth-number (holds_at f s))
  formula_leaves (connected c f g) s stack =
      after_then s (formula_operations f) (formula_operations g ++ Connect c ∷ []) stack _ (formula_leaves f s stack)
      ∙ after_then s (formula_operations g) (Connect c ∷ []) _ _ (formula_leaves g s (number_of_truth (holds_at f s) ∷ stack))
      ∙ ap (λ v. Some (number_of_truth (joined c v (truth_of (number_of_truth (holds_at g s)))) ∷ stack)) (truth-number (holds_at f s))
      ∙ ap (λ v. Some (number_of_truth (joined c (holds_at f s) v) ∷ stack)) (truth-number (holds_at g s))
  formula_leaves (compared c a b) s stack =
      after_then s (expression_operations a) (expression_operations b ++ Compare c ∷ []) stack _ (expression_leaves a s stack)
      ∙ after_then s (expression_operations b) (Compare c ∷ []) _ _ (expression_leaves b s (value_of a s s ∷ stack))

pub operations_leave_values : OperationsLeaveValues
operations_leave_values = record { expressions = expression_leaves; formulas = formula_leaves }

pub left_expression : (e : Expression) (s : State) → left_by (expression_operations e) s ≡ Some (value_of e s s)
left_expression e s = ap (λ o. option_and_then alone o) (expression_leaves e s [])

pub left_formula : (f : Proposition) (s : State) → left_by (formula_operations f) s ≡ Some (number_of_truth (holds_at f s))
left_formula f s = ap (λ o. option_and_then alone o) (formula_leaves f s [])

pub reported_formula : (f : Proposition) (s : State) → reported_by (formula_operations f) s ≡ Some (holds_at f s)
reported_formula f s = ap (λ o. option_map truth_of o) (left_formula f s) ∙ ap (λ v. Some v) (truth-number (holds_at f s))

-- the stores of assignments do what the assignments do
pub stored_assigned : (act : List Assignment) (s : State) → stored (map store_of act) s ≡ Some (assigned act s)
stored_assigned [] s = refl
stored_assigned (a ∷ act) s =
    ap (λ o. option_and_then (λ x. stored (map store_of act) (slice_set s a.target x)) o) (left_expression a.value s)
    ∙ stored_assigned act (slice_set s a.target (value_of a.value s s))
