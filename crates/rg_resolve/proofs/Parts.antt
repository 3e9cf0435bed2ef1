-- The tree of an expression and of a formula, from the trees of its parts.
use Rattle.std.proofs.Common.{◌≡◌, ℕ, ◌<◌, ◌^◌, Bool, false, List, [], refl, ap, ◌∙◌}
use Rattle.std.specs.Prelude.{nat_lt, nat_le}
use Rattle.std.proofs.lemmas.Bool.{lt-ltb}
use Rattle.rg_words.specs.declared.limits.TheConstants.{MOST_SHIFT}
use Rattle.rg_words.specs.declared.operators.Operator.{Operator}
use Rattle.rg_words.specs.declared.operators.Shift.{Shift}
use Rattle.rg_words.specs.declared.operators.Comparison.{Comparison}
use Rattle.rg_words.specs.declared.refusal.RefusalNumber.TheVariants.{NumberTooLarge}
use Rattle.rg_words.specs.Layout.{Word, index_of}
use Rattle.rg_text.specs.declared.kind.Junction.{Junction}
use Rattle.rg_text.specs.declared.kind.Conditional.{Conditional}
use Rattle.rg_text.specs.Text.{Leaf, unprimed}
use Rattle.rg_tree.specs.Trees as tree
use Rattle.rg_tree.specs.Trees.{Expression, Proposition}
use Rattle.rg_syntax.specs.Written.{Term, Claim, number, word, next_word, inverse, binary, shifted, choice, truth, negation, joined, implied, compared}
use Rattle.rg_resolve.specs.Faults.{number_of, group_of, after_first, unless, word_faults, term_faults}
use Rattle.rg_resolve.specs.Inner.FormulaTrees.{place_of, width_of, typed_term, IsTermTree, IsClaimTree}
use Rattle.rg_leaves.proofs.Refusals.{no_faults, no_test}
use Rattle.rg_resolve.proofs.Typed.{known_group}
use Rattle.rg_leaves.specs.declared.group.Group.{Group}
use Rattle.rg_leaves.specs.declared.group.Group.TheVariants.{Width, Unasked}
use Rattle.rg_resolve.specs.Typing.{connective_of, conditional_of}

module _ (words : List Word) (one_state : Bool) where
  pub of_word_leaf : (group : Group) (x : Leaf) (k : ℕ) → word_faults words group false x.line (index_of words x.text) ≡ [] → k ≡ place_of words x.text → IsTermTree words one_state group (word x) (tree.word k)
  of_word_leaf group x k h e = record { faultless = h; tree = λ w at_width. ap tree.word e }

  pub of_next_leaf : (group : Group) (x : Leaf) (k : ℕ) → word_faults words group one_state x.line (index_of words (unprimed x.text)) ≡ [] → k ≡ place_of words (unprimed x.text) → IsTermTree words one_state group (next_word x) (tree.next_word k)
  of_next_leaf group x k h e = record { faultless = h; tree = λ w at_width. ap tree.next_word e }

  pub of_number_leaf : (group : Group) (x : Leaf) (v n : ℕ) → group ≡ Width v → n ≡ number_of x.text → number_of x.text < 2 ^ v → IsTermTree words one_state group (number x) (tree.number v n)
  of_number_leaf group x v n e same small = record {
    faultless = rw e (no_test (nat_lt (number_of x.text) (2 ^ v)) NumberTooLarge x.line (lt-ltb _ _ small));
    tree = λ w at_width. let widths : v ≡ w = cc in rw (widths, same) refl;
  }

  pub of_unasked_leaf : (group : Group) (x : Leaf) (e : Expression) → group ≡ Unasked → IsTermTree words one_state group (number x) e
  of_unasked_leaf group x e u = record { faultless = rw u refl; tree = λ w at_width. cc }

  pub of_inverse : (group : Group) (a : Term) (x : Expression) (v : ℕ) → IsTermTree words one_state group a x → v ≡ width_of group → IsTermTree words one_state group (inverse a) (tree.inverse v x)
  of_inverse group a x v h same = record {
    faultless = h.faultless;
    tree = λ w at_width. rw (same, at_width, h.tree w at_width) refl;
  }

  pub of_binary : (group : Group) (o : Operator) (a b : Term) (x y : Expression) (v : ℕ) → IsTermTree words one_state group a x → IsTermTree words one_state (after_first group) b y → v ≡ width_of group → IsTermTree words one_state group (binary o a b) (tree.binary o v x y)
  of_binary group o a b x y v h i same = record {
    faultless = no_faults _ _ h.faultless i.faultless;
    tree = λ w at_width. rw (same, at_width, h.tree w at_width, i.tree w (ap after_first at_width)) refl;
  }

  pub of_shifted : (group : Group) (d : Shift) (a : Term) (count : Leaf) (x : Expression) (v k : ℕ) → IsTermTree words one_state group a x → unless (nat_le (number_of count.text) MOST_SHIFT) NumberTooLarge count.line ≡ [] → k ≡ number_of count.text → v ≡ width_of group → IsTermTree words one_state group (shifted d a count) (tree.shifted d v x k)
  of_shifted group d a count x v k h i counted same = record {
    faultless = no_faults _ _ h.faultless i;
    tree = λ w at_width. rw (same, at_width, counted, h.tree w at_width) refl;
  }

  pub of_choice : (group : Group) (f : Claim) (a b : Term) (p : Proposition) (x y : Expression) → IsClaimTree words one_state f p → IsTermTree words one_state group a x → IsTermTree words one_state (after_first group) b y → IsTermTree words one_state group (choice f a b) (tree.choice p x y)
  of_choice group f a b p x y g h i = record {
    faultless = no_faults _ _ g.faultless (no_faults _ _ h.faultless i.faultless);
    tree = λ w at_width. rw (g.tree, h.tree w at_width, i.tree w (ap after_first at_width)) refl;
  }

  pub of_truth : (b : Bool) → IsClaimTree words one_state (truth b) (tree.truth b)
  of_truth b = record { faultless = refl; tree = refl }

  pub of_negation : (f : Claim) (p : Proposition) → IsClaimTree words one_state f p → IsClaimTree words one_state (negation f) (tree.negation p)
  of_negation f p h = record { faultless = h.faultless; tree = ap tree.negation h.tree }

  pub of_joined : (j : Junction) (f g : Claim) (p q : Proposition) → IsClaimTree words one_state f p → IsClaimTree words one_state g q → IsClaimTree words one_state (joined j f g) (tree.connected (connective_of j) p q)
  of_joined j f g p q h i = record { faultless = no_faults _ _ h.faultless i.faultless; tree = rw (h.tree, i.tree) refl }

  pub of_implied : (d : Conditional) (f g : Claim) (p q : Proposition) → IsClaimTree words one_state f p → IsClaimTree words one_state g q → IsClaimTree words one_state (implied d f g) (tree.connected (conditional_of d) p q)
  of_implied d f g p q h i = record { faultless = no_faults _ _ h.faultless i.faultless; tree = rw (h.tree, i.tree) refl }

  both_sides : (c : Comparison) (group : Group) (w : ℕ) (a b : Term) (x y : Expression) → group ≡ Width w → x ≡ typed_term words w a → y ≡ typed_term words w b → tree.compared c x y ≡ tree.compared c (typed_term words (width_of group) a) (typed_term words (width_of group) b)
  both_sides c group w a b x y e left right = rw (left, right, e) refl

  pub of_compared : (c : Comparison) (a b : Term) (x y : Expression) (group : Group) → group ≡ group_of words a b → IsTermTree words one_state group a x → IsTermTree words one_state (after_first group) b y → IsClaimTree words one_state (compared c a b) (tree.compared c x y)
  of_compared c a b x y group same h i =
      let left : term_faults words one_state (group_of words a b) a ≡ [] = rw (← same) h.faultless in
      let right : term_faults words one_state (after_first (group_of words a b)) b ≡ [] = rw (← same) i.faultless in
      let known = known_group words one_state a b (no_faults _ _ left right) in
      let is = same ∙ known.is in
      record {
        faultless = no_faults _ _ left right;
        tree = both_sides c _ _ a b x y known.is (h.tree _ is) (i.tree _ (ap after_first is));
      }

pub ruleset parts = (of_word_leaf, of_next_leaf, of_number_leaf, of_unasked_leaf, of_inverse, of_binary, of_shifted, of_choice, of_truth, of_negation, of_joined, of_implied, of_compared)
