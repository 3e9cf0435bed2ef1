-- Values and formulas in SMT-LIB 2: the operation before its operands, in parentheses. Its operations on bit vectors of w bits are those of the language.
use Rattle.std.specs.Prelude.{ℕ, Bool, true, false, List, ◌++◌, codes, nat_le, if◌then◌else◌}
use Rattle.std.specs.Fmt.{decimal}
use Rattle.rg_words.specs.declared.operators.Operator.{Operator}
use Rattle.rg_words.specs.declared.operators.Operator.TheVariants.{Add, Subtract, BitAnd, BitOr, BitXor}
use Rattle.rg_words.specs.declared.operators.Shift.{Shift}
use Rattle.rg_words.specs.declared.operators.Shift.TheVariants.{Left, Right}
use Rattle.rg_words.specs.declared.operators.Comparison.{Comparison}
use Rattle.rg_words.specs.declared.operators.Comparison.TheVariants.{Equal, NotEqual, Less, LessOrEqual, Greater, GreaterOrEqual}
use Rattle.rg_words.specs.declared.operators.Connective.{Connective}
use Rattle.rg_words.specs.declared.operators.Connective.TheVariants.{And, Or, Implies, Iff}
use Rattle.rg_words.specs.Layout.{Word}
use Rattle.rg_tree.specs.Trees.{Expression, Proposition, number, word, next_word, inverse, binary, shifted, choice, truth, negation, connected, compared}
use Rattle.rg_smt.specs.Symbols.{Reading, symbol}

-- what stands before the operands of an operation: sum and difference modulo 2 ^ w, and, or, exclusive or, bit by bit
abbrev pub operator_text : Operator → List ℕ
operator_text Add = codes "(bvadd "
operator_text Subtract = codes "(bvsub "
operator_text BitAnd = codes "(bvand "
operator_text BitOr = codes "(bvor "
operator_text BitXor = codes "(bvxor "

-- of a shift, which moves zeros in
abbrev pub shift_text : Shift → List ℕ
shift_text Left = codes "(bvshl "
shift_text Right = codes "(bvlshr "

-- of a comparison of unsigned numbers
abbrev pub comparison_text : Comparison → List ℕ
comparison_text Equal = codes "(= "
comparison_text NotEqual = codes "(distinct "
comparison_text Less = codes "(bvult "
comparison_text LessOrEqual = codes "(bvule "
comparison_text Greater = codes "(bvugt "
comparison_text GreaterOrEqual = codes "(bvuge "

-- of a connective
abbrev pub connective_text : Connective → List ℕ
connective_text And = codes "(and "
connective_text Or = codes "(or "
connective_text Implies = codes "(=> "
connective_text Iff = codes "(= "

-- a truth
abbrev pub truth_text : Bool → List ℕ
truth_text true = codes "true"
truth_text false = codes "false"

-- the number n of w bits
abbrev pub number_text : ℕ → ℕ → List ℕ
number_text w n = codes "(_ bv" ++ (decimal n ++ (codes " " ++ (decimal w ++ codes ")")))

-- one operand after what stands before it, and two
abbrev pub of_one : List ℕ → List ℕ → List ℕ
of_one before a = before ++ (a ++ codes ")")

abbrev pub of_two : List ℕ → List ℕ → List ℕ → List ℕ
of_two before a b = before ++ (a ++ (codes " " ++ (b ++ codes ")")))

abbrev mutual
  -- a value, words read in r and primed words in s
  pub value_text : List Word → Reading → Reading → Expression → List ℕ
  value_text words r s (number w n) = number_text w n
  value_text words r s (word k) = symbol words r k
  value_text words r s (next_word k) = symbol words s k
  value_text words r s (inverse w a) = of_one (codes "(bvnot ") (value_text words r s a)
  value_text words r s (binary o w a b) = of_two (operator_text o) (value_text words r s a) (value_text words r s b)
  -- (a count of w or more, which may not be a number of w bits, leaves 0)
  value_text words r s (shifted d w a k) =
      if nat_le w k then number_text w 0 else of_two (shift_text d) (value_text words r s a) (number_text w k)
  value_text words r s (choice f a b) =
      codes "(ite " ++ (formula_text words r s f ++ (codes " " ++ (value_text words r s a ++ (codes " " ++ (value_text words r s b ++ codes ")")))))

  -- a formula
  pub formula_text : List Word → Reading → Reading → Proposition → List ℕ
  formula_text words r s (truth b) = truth_text b
  formula_text words r s (negation f) = of_one (codes "(not ") (formula_text words r s f)
  formula_text words r s (connected c f g) = of_two (connective_text c) (formula_text words r s f) (formula_text words r s g)
  formula_text words r s (compared c a b) = of_two (comparison_text c) (value_text words r s a) (value_text words r s b)
