-- Trees in which the words are replaced by expressions.
use Rattle.std.specs.Prelude.{List, slice_index_or}
use Rattle.rg_tree.specs.Trees.{Expression, Proposition, number, word, next_word, inverse, binary, shifted, choice, truth, negation, connected, compared}

abbrev mutual
  -- the k-th word is the k-th of the first expressions, where it has a prime the k-th of the second ones
  pub expression_over : List Expression → List Expression → Expression → Expression
  expression_over plain primed (number w n) = number w n
  expression_over plain primed (word k) = slice_index_or plain k (word k)
  expression_over plain primed (next_word k) = slice_index_or primed k (next_word k)
  expression_over plain primed (inverse w a) = inverse w (expression_over plain primed a)
  expression_over plain primed (binary o w a b) = binary o w (expression_over plain primed a) (expression_over plain primed b)
  expression_over plain primed (shifted d w a k) = shifted d w (expression_over plain primed a) k
  expression_over plain primed (choice f a b) = choice (formula_over plain primed f) (expression_over plain primed a) (expression_over plain primed b)

  -- and in a formula
  pub formula_over : List Expression → List Expression → Proposition → Proposition
  formula_over plain primed (truth b) = truth b
  formula_over plain primed (negation f) = negation (formula_over plain primed f)
  formula_over plain primed (connected c f g) = connected c (formula_over plain primed f) (formula_over plain primed g)
  formula_over plain primed (compared c a b) = compared c (expression_over plain primed a) (expression_over plain primed b)
