-- The faults of meaning of a formula: a list over its leaves, in the order of the text.
use Rattle.std.specs.Prelude.{Bool, false, nat_le, List, [], ◌∷◌, ◌++◌}
use Rattle.rg_words.specs.declared.limits.TheConstants.{MOST_SHIFT}
use Rattle.rg_words.specs.declared.refusal.RefusalNumber.TheVariants.{NumberTooLarge}
use Rattle.rg_words.specs.Layout.{Word, index_of}
use Rattle.rg_text.specs.Text.{unprimed}
use Rattle.rg_syntax.specs.Written.{Term, Claim, number, word, next_word, inverse, binary, shifted, choice, truth, negation, joined, implied, compared}
use Rattle.rg_leaves.specs.declared.group.Group.{Group}
unfoldable pub use Rattle.rg_leaves.specs.Leaves.{group_of}
pub use Rattle.rg_leaves.specs.Leaves.{Fault, number_of, width_at, first_name, group_at, group_by, after_first, unless, is_other, word_faults, number_faults, plain_faults, IsFirst, IsRefusal}

-- the faults of an expression of a group, and of a formula
abbrev mutual
  pub term_faults : List Word → Bool → Group → Term → List Fault
  term_faults words one_state group (number n) = number_faults group n.line (number_of n.text)
  term_faults words one_state group (word x) = word_faults words group false x.line (index_of words x.text)
  term_faults words one_state group (next_word x) = word_faults words group one_state x.line (index_of words (unprimed x.text))
  term_faults words one_state group (inverse a) = term_faults words one_state group a
  term_faults words one_state group (binary o a b) = term_faults words one_state group a ++ term_faults words one_state (after_first group) b
  term_faults words one_state group (shifted d a n) = term_faults words one_state group a ++ unless (nat_le (number_of n.text) MOST_SHIFT) NumberTooLarge n.line
  term_faults words one_state group (choice f a b) =
      claim_faults words one_state f ++ (term_faults words one_state group a ++ term_faults words one_state (after_first group) b)

  pub claim_faults : List Word → Bool → Claim → List Fault
  claim_faults words one_state (truth b) = []
  claim_faults words one_state (negation f) = claim_faults words one_state f
  claim_faults words one_state (joined j f g) = claim_faults words one_state f ++ claim_faults words one_state g
  claim_faults words one_state (implied d f g) = claim_faults words one_state f ++ claim_faults words one_state g
  claim_faults words one_state (compared c a b) =
      term_faults words one_state (group_of words a b) a ++ term_faults words one_state (after_first (group_of words a b)) b

-- the faults of items, each after those before it
unfoldable pub faults_in_turn : {A : Type 0} → (List A → A → List Fault) → List A → List A → List Fault
faults_in_turn faults before [] = []
faults_in_turn faults before (x ∷ xs) = faults before x ++ faults_in_turn faults (before ++ x ∷ []) xs
