-- What operations in postfix order do over a stack of numbers, whose top is the front of the list, and the operations of a tree.
use Rattle.std.specs.Prelude.{◌≡◌, ℕ, ◌-◌, ◌^◌, Bool, not, cond, nat_eq, List, [], ◌∷◌, ◌++◌, Option, Some, None, option_and_then, option_map, slice_index}
use Rattle.rg_tree.specs.Trees.{Expression, Proposition, number, word, next_word, inverse, binary, shifted, choice, truth, negation, connected, compared}
use Rattle.rg_tree.specs.Meaning.{operated, moved, is_so, joined, value_of}
use Rattle.rg_tree.specs.Traces.{State, holds_at}
use Rattle.rg_code.specs.declared.operation.Operation.{Operation}
use Rattle.rg_code.specs.declared.operation.Operation.TheVariants.{Number, Word, Inverse, Binary, Shifted, Pick, Compare, Truth, Not, Connect}

-- a truth value as a number
abbrev pub number_of_truth : Bool → ℕ
number_of_truth b = cond b 1 0

-- a number as a truth value
abbrev pub truth_of : ℕ → Bool
truth_of n = not (nat_eq n 0)

-- one operand is replaced by a number made of it
abbrev pub on_one : (ℕ → ℕ) → List ℕ → Option (List ℕ)
on_one f [] = None
on_one f (a ∷ stack) = Some (f a ∷ stack)

-- two operands are, the one worked out last being the second
abbrev pub on_two : (ℕ → ℕ → ℕ) → List ℕ → Option (List ℕ)
on_two f [] = None
on_two f (b ∷ []) = None
on_two f (b ∷ a ∷ stack) = Some (f a b ∷ stack)

-- three operands are
abbrev pub on_three : (ℕ → ℕ → ℕ → ℕ) → List ℕ → Option (List ℕ)
on_three f [] = None
on_three f (c ∷ []) = None
on_three f (c ∷ b ∷ []) = None
on_three f (c ∷ b ∷ a ∷ stack) = Some (f a b c ∷ stack)

-- the stack after an operation in a state, if the operands were there
abbrev pub after_operation : State → Operation → List ℕ → Option (List ℕ)
after_operation s (Number n) stack = Some (n ∷ stack)
after_operation s (Word k) stack = Some (slice_index s k ∷ stack)
after_operation s (Inverse w) stack = on_one (λ a. 2 ^ w - 1 - a) stack
after_operation s (Binary o w) stack = on_two (operated o w) stack
after_operation s (Shifted d w k) stack = on_one (λ a. moved d w a k) stack
after_operation s Pick stack = on_three (λ f a b. cond (truth_of f) a b) stack
after_operation s (Compare c) stack = on_two (λ a b. number_of_truth (is_so c a b)) stack
after_operation s (Truth b) stack = Some (number_of_truth b ∷ stack)
after_operation s Not stack = on_one (λ a. number_of_truth (not (truth_of a))) stack
after_operation s (Connect c) stack = on_two (λ a b. number_of_truth (joined c (truth_of a) (truth_of b))) stack

-- the stack after operations, one after another
abbrev pub after_operations : State → List Operation → List ℕ → Option (List ℕ)
after_operations s [] stack = Some stack
after_operations s (o ∷ os) stack = option_and_then (λ next. after_operations s os next) (after_operation s o stack)

-- the number that stands alone on the stack
abbrev pub alone : List ℕ → Option ℕ
alone [] = None
alone (x ∷ []) = Some x
alone (x ∷ y ∷ stack) = None

-- the number that operations leave in a state
abbrev pub left_by : List Operation → State → Option ℕ
left_by os s = option_and_then alone (after_operations s os [])

-- the truth value that operations leave in a state
abbrev pub reported_by : List Operation → State → Option Bool
reported_by os s = option_map truth_of (left_by os s)

-- the operations of a tree: those of its operands from left to right, and then its own
abbrev mutual
  -- of an expression, all of whose words are read in one state
  pub expression_operations : Expression → List Operation
  expression_operations (number w n) = Number n ∷ []
  expression_operations (word k) = Word k ∷ []
  expression_operations (next_word k) = Word k ∷ []
  expression_operations (inverse w a) = expression_operations a ++ Inverse w ∷ []
  expression_operations (binary o w a b) = expression_operations a ++ (expression_operations b ++ Binary o w ∷ [])
  expression_operations (shifted d w a k) = expression_operations a ++ Shifted d w k ∷ []
  expression_operations (choice f a b) = formula_operations f ++ (expression_operations a ++ (expression_operations b ++ Pick ∷ []))

  -- of a formula
  pub formula_operations : Proposition → List Operation
  formula_operations (truth b) = Truth b ∷ []
  formula_operations (negation f) = formula_operations f ++ Not ∷ []
  formula_operations (connected c f g) = formula_operations f ++ (formula_operations g ++ Connect c ∷ [])
  formula_operations (compared c a b) = expression_operations a ++ (expression_operations b ++ Compare c ∷ [])

-- the operations of an expression leave its value on top of the stack, and those of a formula its truth value, and nothing else
pub record OperationsLeaveValues : Type 0 where
  pub expressions : (e : Expression) (s : State) (stack : List ℕ) → after_operations s (expression_operations e) stack ≡ Some (value_of e s s ∷ stack)
  pub formulas : (f : Proposition) (s : State) (stack : List ℕ) → after_operations s (formula_operations f) stack ≡ Some (number_of_truth (holds_at f s) ∷ stack)
