-- When a formula stands for a typed tree over declared words, by rules; one of them fits at most.
use Rattle.std.specs.Prelude.{◌≡◌, ◌↔◌, ℕ, ◌<◌, ◌≤◌, ◌^◌, Bool, true, false, List, [], Some, is_some}
use Rattle.std.specs.Option.{option_or}
use Rattle.rg_words.specs.declared.limits.TheConstants.{MOST_SHIFT}
use Rattle.rg_words.specs.declared.operators.Operator.{Operator}
use Rattle.rg_words.specs.declared.operators.Shift.{Shift}
use Rattle.rg_words.specs.declared.operators.Comparison.{Comparison}
use Rattle.rg_words.specs.declared.operators.Connective.{Connective}
use Rattle.rg_words.specs.declared.operators.Connective.TheVariants.{And as Conjunction, Or as Disjunction, Implies as Implication, Iff as Equivalence}
use Rattle.rg_words.specs.Layout.{Word, index_of}
use Rattle.rg_text.specs.declared.kind.Junction.{Junction}
use Rattle.rg_text.specs.declared.kind.Junction.TheVariants.{And, Or}
use Rattle.rg_text.specs.declared.kind.Conditional.{Conditional}
use Rattle.rg_text.specs.declared.kind.Conditional.TheVariants.{Implies, Iff}
use Rattle.rg_text.specs.Text.{Leaf, unprimed}
use Rattle.rg_tree.specs.Trees as tree
use Rattle.rg_tree.specs.Trees.{Expression, Proposition}
use Rattle.rg_syntax.specs.Written as written
use Rattle.rg_syntax.specs.Written.{Term, Claim}
use Rattle.rg_resolve.specs.Faults.{number_of, width_at, first_name, claim_faults}

-- the connective that a word of a chain means
abbrev pub connective_of : Junction → Connective
connective_of And = Conjunction
connective_of Or = Disjunction

-- the connective that `implies` and `iff` mean
abbrev pub conditional_of : Conditional → Connective
conditional_of Implies = Implication
conditional_of Iff = Equivalence

mutual
  -- an expression at a width: its words are declared at this width and its numbers are below 2 to its power
  pub data TermStandsFor (words : List Word) (one_state : Bool) : ℕ → Term → Expression → Type 0 where
    number : (w : ℕ) (x : Leaf) → number_of x.text < 2 ^ w → TermStandsFor words one_state w (written.number x) (tree.number w (number_of x.text))
    word : (k : ℕ) (x : Leaf) → index_of words x.text ≡ Some k → TermStandsFor words one_state (width_at words k) (written.word x) (tree.word k)
    next_word : (k : ℕ) (x : Leaf) → one_state ≡ false → index_of words (unprimed x.text) ≡ Some k → TermStandsFor words one_state (width_at words k) (written.next_word x) (tree.next_word k)
    inverse : (w : ℕ) (a : Term) (x : Expression) → TermStandsFor words one_state w a x → TermStandsFor words one_state w (written.inverse a) (tree.inverse w x)
    binary : (w : ℕ) (o : Operator) (a b : Term) (x y : Expression) → TermStandsFor words one_state w a x → TermStandsFor words one_state w b y → TermStandsFor words one_state w (written.binary o a b) (tree.binary o w x y)
    shifted : (w : ℕ) (d : Shift) (a : Term) (x : Expression) (count : Leaf) → TermStandsFor words one_state w a x → number_of count.text ≤ MOST_SHIFT → TermStandsFor words one_state w (written.shifted d a count) (tree.shifted d w x (number_of count.text))
    choice : (w : ℕ) (f : Claim) (a b : Term) (p : Proposition) (x y : Expression) → ClaimStandsFor words one_state f p → TermStandsFor words one_state w a x → TermStandsFor words one_state w b y → TermStandsFor words one_state w (written.choice f a b) (tree.choice p x y)

  -- a formula: the two sides of each comparison have one width, and one of them has a word
  pub data ClaimStandsFor (words : List Word) (one_state : Bool) : Claim → Proposition → Type 0 where
    truth : (b : Bool) → ClaimStandsFor words one_state (written.truth b) (tree.truth b)
    negation : (f : Claim) (p : Proposition) → ClaimStandsFor words one_state f p → ClaimStandsFor words one_state (written.negation f) (tree.negation p)
    joined : (j : Junction) (f g : Claim) (p q : Proposition) → ClaimStandsFor words one_state f p → ClaimStandsFor words one_state g q → ClaimStandsFor words one_state (written.joined j f g) (tree.connected (connective_of j) p q)
    implied : (d : Conditional) (f g : Claim) (p q : Proposition) → ClaimStandsFor words one_state f p → ClaimStandsFor words one_state g q → ClaimStandsFor words one_state (written.implied d f g) (tree.connected (conditional_of d) p q)
    compared : (c : Comparison) (w : ℕ) (a b : Term) (x y : Expression) → TermStandsFor words one_state w a x → TermStandsFor words one_state w b y → is_some (option_or (first_name a) (first_name b)) ≡ true → ClaimStandsFor words one_state (written.compared c a b) (tree.compared c x y)

-- a formula stands for one tree at most
abbrev pub OneTree : Type 0
OneTree = (words : List Word) (one_state : Bool) (f : Claim) (p q : Proposition) → ClaimStandsFor words one_state f p → ClaimStandsFor words one_state f q → p ≡ q

-- a formula stands for a tree exactly where it has no faults
abbrev pub FaultlessStand : Type 0
FaultlessStand = (words : List Word) (one_state : Bool) (f : Claim) → (claim_faults words one_state f ≡ []) ↔ ((p : Proposition) × ClaimStandsFor words one_state f p)
