-- Values and tests with what a compiler would see worked out: equal in all states, and compiled without warnings.
use Rattle.std.specs.Prelude.{ℕ, ◌-◌, ◌^◌, Bool, true, false, ◌||◌, nat_eq, nat_le, if◌then◌else◌, Option, Some, None}
use Rattle.rg_words.specs.declared.operators.Operator.{Operator}
use Rattle.rg_words.specs.declared.operators.Operator.TheVariants.{BitAnd}
use Rattle.rg_words.specs.declared.operators.Shift.{Shift}
use Rattle.rg_words.specs.declared.operators.Comparison.{Comparison}
use Rattle.rg_words.specs.declared.operators.Comparison.TheVariants.{Equal, NotEqual, Less, LessOrEqual, Greater, GreaterOrEqual}
use Rattle.rg_tree.specs.Trees.{Expression, Proposition, number, word, next_word, inverse, binary, shifted, choice, truth, negation, connected, compared}
use Rattle.rg_tree.specs.Meaning.{operated, moved, is_so}

-- the greatest number of w bits, all of whose bits are 1
abbrev pub top : ℕ → ℕ
top w = 2 ^ w - 1

-- all bits turned
abbrev pub simple_inverse : ℕ → Expression → Expression
simple_inverse w (number v n) = number w (top w - n)
simple_inverse w a = inverse w a

-- whether the operator, with this expression as one operand, gives 0
abbrev pub erases : Operator → Expression → Bool
erases BitAnd (number w n) = nat_eq n 0
erases o e = false

-- an operation
abbrev pub simple_binary : Operator → ℕ → Expression → Expression → Expression
simple_binary o w (number u m) (number v n) = number w (operated o w m n)
simple_binary o w a b = if erases o a || erases o b then number w 0 else binary o w a b

-- a shift, which leaves nothing where the count reaches the width
abbrev pub simple_shift : Shift → ℕ → Expression → ℕ → Expression
simple_shift d w (number v n) k = number w (moved d w n k)
simple_shift d w a k = if nat_le w k then number w 0 else shifted d w a k

-- a choice
abbrev pub simple_choice : Proposition → Expression → Expression → Expression
simple_choice (truth true) a b = a
simple_choice (truth false) a b = b
simple_choice f a b = choice f a b

-- a comparison with its sides exchanged
abbrev pub turned : Comparison → Comparison
turned Equal = Equal
turned NotEqual = NotEqual
turned Less = Greater
turned LessOrEqual = GreaterOrEqual
turned Greater = Less
turned GreaterOrEqual = LessOrEqual

-- what a comparison of any value of w bits with this number is, where it is the same for all of them
abbrev pub decided_by_number : Comparison → ℕ → ℕ → Option Bool
decided_by_number Equal w n = None
decided_by_number NotEqual w n = None
decided_by_number Less w n = if nat_eq n 0 then Some false else None
decided_by_number LessOrEqual w n = if nat_eq n (top w) then Some true else None
decided_by_number Greater w n = if nat_eq n (top w) then Some false else None
decided_by_number GreaterOrEqual w n = if nat_eq n 0 then Some true else None

-- what a comparison of these expressions is, where that is seen: of two numbers, of a word with itself, and with a least or greatest number
abbrev pub decided : Comparison → Expression → Expression → Option Bool
decided c (number v m) (number w n) = Some (is_so c m n)
decided c (word j) (word k) = if nat_eq j k then Some (is_so c 0 0) else None
decided c (number w n) b = decided_by_number (turned c) w n
decided c a (number w n) = decided_by_number c w n
decided c a b = None

-- a truth that is known, or else the formula
abbrev pub known_or : Option Bool → Proposition → Proposition
known_or None f = f
known_or (Some b) f = truth b

abbrev mutual
  -- an expression
  pub simplified : Expression → Expression
  simplified (number w n) = number w n
  simplified (word k) = word k
  simplified (next_word k) = word k
  simplified (inverse w a) = simple_inverse w (simplified a)
  simplified (binary o w a b) = simple_binary o w (simplified a) (simplified b)
  simplified (shifted d w a k) = simple_shift d w (simplified a) k
  simplified (choice f a b) = simple_choice (simplified_test f) (simplified a) (simplified b)

  -- a formula
  pub simplified_test : Proposition → Proposition
  simplified_test (truth b) = truth b
  simplified_test (negation f) = negation (simplified_test f)
  simplified_test (connected c f g) = connected c (simplified_test f) (simplified_test g)
  simplified_test (compared c a b) = known_or (decided c (simplified a) (simplified b)) (compared c (simplified a) (simplified b))
