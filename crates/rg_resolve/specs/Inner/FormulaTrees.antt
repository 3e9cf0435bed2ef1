-- The typed tree that a formula without faults stands for.
use Rattle.std.specs.Prelude.{◌≡◌, ℕ, Bool, List, []}
use Rattle.rg_words.specs.Layout.{Word}
use Rattle.rg_tree.specs.Trees as tree
use Rattle.rg_tree.specs.Trees.{Expression, Proposition}
use Rattle.rg_text.specs.Text.{unprimed}
use Rattle.rg_syntax.specs.Written.{Term, Claim, number, word, next_word, inverse, binary, shifted, choice, truth, negation, joined, implied, compared}
pub use Rattle.rg_leaves.specs.Leaves.{place_of, width_of}
use Rattle.rg_resolve.specs.Faults.{number_of, group_of, term_faults, claim_faults}
use Rattle.rg_resolve.specs.Typing.{connective_of, conditional_of}
use Rattle.rg_leaves.specs.declared.group.Group.{Group}
use Rattle.rg_leaves.specs.declared.group.Group.TheVariants.{Width}

-- an expression at this width, and a formula whose comparisons are each at the width of their group
abbrev mutual
  pub typed_term : List Word → ℕ → Term → Expression
  typed_term words w (number n) = tree.number w (number_of n.text)
  typed_term words w (word x) = tree.word (place_of words x.text)
  typed_term words w (next_word x) = tree.next_word (place_of words (unprimed x.text))
  typed_term words w (inverse a) = tree.inverse w (typed_term words w a)
  typed_term words w (binary o a b) = tree.binary o w (typed_term words w a) (typed_term words w b)
  typed_term words w (shifted d a n) = tree.shifted d w (typed_term words w a) (number_of n.text)
  typed_term words w (choice f a b) = tree.choice (typed_claim words f) (typed_term words w a) (typed_term words w b)

  pub typed_claim : List Word → Claim → Proposition
  typed_claim words (truth b) = tree.truth b
  typed_claim words (negation f) = tree.negation (typed_claim words f)
  typed_claim words (joined j f g) = tree.connected (connective_of j) (typed_claim words f) (typed_claim words g)
  typed_claim words (implied d f g) = tree.connected (conditional_of d) (typed_claim words f) (typed_claim words g)
  typed_claim words (compared c a b) =
      tree.compared c (typed_term words (width_of (group_of words a b)) a) (typed_term words (width_of (group_of words a b)) b)

-- no leaf of the expression is at fault, and the tree is its tree at the width of the group, where that has one
pub record IsTermTree (words : List Word) (one_state : Bool) (group : Group) (t : Term) (e : Expression) : Type 0 where
  pub faultless : term_faults words one_state group t ≡ []
  pub tree : (w : ℕ) → group ≡ Width w → e ≡ typed_term words w t

-- no leaf of the formula is at fault, and the tree is its tree
pub record IsClaimTree (words : List Word) (one_state : Bool) (f : Claim) (p : Proposition) : Type 0 where
  pub faultless : claim_faults words one_state f ≡ []
  pub tree : p ≡ typed_claim words f
