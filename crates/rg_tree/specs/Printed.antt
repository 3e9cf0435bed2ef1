-- The text of a formula, and then the rest.
use Rattle.std.specs.Prelude.{ℕ, Bool, true, false, List, [], ◌++◌, slice_index_or, codes}
use Rattle.std.specs.Fmt.{decimal}
use Rattle.rg_words.specs.declared.operators.Operator.{Operator}
use Rattle.rg_words.specs.declared.operators.Operator.TheVariants.{Add, Subtract, BitAnd, BitOr, BitXor}
use Rattle.rg_words.specs.declared.operators.Shift.{Shift}
use Rattle.rg_words.specs.declared.operators.Shift.TheVariants.{Left, Right}
use Rattle.rg_words.specs.declared.operators.Comparison.{Comparison}
use Rattle.rg_words.specs.declared.operators.Comparison.TheVariants.{Equal, NotEqual, Less, LessOrEqual, Greater, GreaterOrEqual}
use Rattle.rg_words.specs.declared.operators.Connective.{Connective}
use Rattle.rg_words.specs.declared.operators.Connective.TheVariants.{And, Or, Implies, Iff}
use Rattle.rg_words.specs.Layout.{Word, names_of}
use Rattle.rg_tree.specs.Trees.{Expression, Proposition, number, word, next_word, inverse, binary, shifted, choice, truth, negation, connected, compared}

-- how an operation is written
abbrev pub operator_text : Operator → List ℕ
operator_text Add = codes "+"
operator_text Subtract = codes "-"
operator_text BitAnd = codes "band"
operator_text BitOr = codes "bor"
operator_text BitXor = codes "bxor"

-- how a shift is written
abbrev pub shift_text : Shift → List ℕ
shift_text Left = codes "shl"
shift_text Right = codes "shr"

-- how a comparison is written
abbrev pub comparison_text : Comparison → List ℕ
comparison_text Equal = codes "="
comparison_text NotEqual = codes "!="
comparison_text Less = codes "<"
comparison_text LessOrEqual = codes "<="
comparison_text Greater = codes ">"
comparison_text GreaterOrEqual = codes ">="

-- how a connective is written
abbrev pub connective_text : Connective → List ℕ
connective_text And = codes "and"
connective_text Or = codes "or"
connective_text Implies = codes "implies"
connective_text Iff = codes "iff"

-- how a truth value is written
abbrev pub truth_text : Bool → List ℕ
truth_text true = codes "true"
truth_text false = codes "false"

-- the name of the k-th word
abbrev pub name_text : List Word → ℕ → List ℕ
name_text words k = slice_index_or (names_of words) k []

-- a word or symbol with a space on each side, and then the rest
abbrev pub between : List ℕ → List ℕ → List ℕ
between text rest = codes " " ++ (text ++ (codes " " ++ rest))

abbrev mutual
  -- each operation in parentheses, a primed word with `'`
  pub expression_text : List Word → Expression → List ℕ → List ℕ
  expression_text words (number w n) rest = decimal n ++ rest
  expression_text words (word k) rest = name_text words k ++ rest
  expression_text words (next_word k) rest = name_text words k ++ (codes "'" ++ rest)
  expression_text words (inverse w a) rest = codes "inv " ++ expression_text words a rest
  expression_text words (binary o w a b) rest =
      codes "(" ++ expression_text words a (between (operator_text o) (expression_text words b (codes ")" ++ rest)))
  expression_text words (shifted d w a k) rest =
      codes "(" ++ expression_text words a (between (shift_text d) (decimal k ++ (codes ")" ++ rest)))
  expression_text words (choice f a b) rest =
      codes "(if " ++ formula_text words f (between (codes "then") (expression_text words a (between (codes "else") (expression_text words b (codes ")" ++ rest)))))

  -- each connective and comparison in parentheses
  pub formula_text : List Word → Proposition → List ℕ → List ℕ
  formula_text words (truth b) rest = truth_text b ++ rest
  formula_text words (negation f) rest = codes "not " ++ formula_text words f rest
  formula_text words (connected c f g) rest =
      codes "(" ++ formula_text words f (between (connective_text c) (formula_text words g (codes ")" ++ rest)))
  formula_text words (compared c a b) rest =
      codes "(" ++ expression_text words a (between (comparison_text c) (expression_text words b (codes ")" ++ rest)))
