-- What is said of the words that are left of a program, said of the program's words. A list has for each word that is left its place in the program.
use Rattle.std.specs.Prelude.{ℕ, Bool, List, slice_index}
use Rattle.rg_words.specs.Layout.{Word}
use Rattle.rg_tree.specs.Trees.{Expression, Proposition, number, word, next_word, inverse, binary, shifted, choice, truth, negation, connected, compared}
use Rattle.rg_erase.specs.Erased.{staying}
use Rattle.rg_c_plan.specs.Accesses.{places}

-- the places of the words that stay
abbrev pub old_places : List Bool → List Word → List ℕ
old_places erased words = staying erased (places words)

-- a tree over the words that are left, over the program's words
abbrev mutual
  pub lifted : List ℕ → Expression → Expression
  lifted old (number w n) = number w n
  lifted old (word k) = word (slice_index old k)
  lifted old (next_word k) = next_word (slice_index old k)
  lifted old (inverse w a) = inverse w (lifted old a)
  lifted old (binary o w a b) = binary o w (lifted old a) (lifted old b)
  lifted old (shifted d w a k) = shifted d w (lifted old a) k
  lifted old (choice f a b) = choice (lifted_formula old f) (lifted old a) (lifted old b)

  pub lifted_formula : List ℕ → Proposition → Proposition
  lifted_formula old (truth b) = truth b
  lifted_formula old (negation f) = negation (lifted_formula old f)
  lifted_formula old (connected c f g) = connected c (lifted_formula old f) (lifted_formula old g)
  lifted_formula old (compared c a b) = compared c (lifted old a) (lifted old b)
