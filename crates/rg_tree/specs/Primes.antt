-- Whether a tree has a primed word, wherever it stands, also where its value makes no difference.
use Rattle.std.specs.Prelude.{Bool, true, false, ◌||◌}
use Rattle.rg_tree.specs.Trees.{Expression, Proposition, number, word, next_word, inverse, binary, shifted, choice, truth, negation, connected, compared}

abbrev mutual
  -- an expression has one
  pub has_next_word : Expression → Bool
  has_next_word (number w n) = false
  has_next_word (word k) = false
  has_next_word (next_word k) = true
  has_next_word (inverse w a) = has_next_word a
  has_next_word (binary o w a b) = has_next_word a || has_next_word b
  has_next_word (shifted d w a k) = has_next_word a
  has_next_word (choice f a b) = speaks_of_two f || has_next_word a || has_next_word b

  -- a formula has one
  pub speaks_of_two : Proposition → Bool
  speaks_of_two (truth b) = false
  speaks_of_two (negation f) = speaks_of_two f
  speaks_of_two (connected c f g) = speaks_of_two f || speaks_of_two g
  speaks_of_two (compared c a b) = has_next_word a || has_next_word b
