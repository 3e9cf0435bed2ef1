-- A formula stands for a typed tree exactly where it has no faults, and then for one.
use Rattle.std.proofs.Common.{◌≡◌, ℕ, ◌^◌, Bool, true, false, List, [], refl, sym, ap, subst, ◌∙◌, inl, inr}
use Rattle.std.specs.Prelude.{Option, Some, None, is_some, ◌⊎◌, not, nat_eq, nat_lt, nat_le}
use Rattle.std.specs.Option.{option_or, unwrap_or}
use Rattle.std.proofs.lemmas.Bool.{ltb-true, leb-true, eqb-true, eq-eqb, not-false, not-true, lt-ltb, le-leb}
use Rattle.rg_words.specs.declared.limits.TheConstants.{MOST_SHIFT}
use Rattle.rg_words.specs.declared.refusal.RefusalNumber.TheVariants.{NumberTooLarge}
use Rattle.rg_words.specs.declared.refusal.Refusal.{Refusal}
use Rattle.rg_words.specs.declared.refusal.SourceFile.{SourceFile}
use Rattle.rg_words.specs.Refusals.{no_memory}
use Rattle.rg_words.specs.Layout.{Word, index_of}
use Rattle.rg_text.specs.Text.{Leaf, unprimed}
use Rattle.rg_tree.specs.Trees as tree
use Rattle.rg_tree.specs.Trees.{Expression, Proposition}
use Rattle.rg_syntax.specs.Written as written
use Rattle.rg_syntax.specs.Written.{Term, Claim}
use Rattle.rg_resolve.specs.Faults.{number_of, width_at, first_name, group_at, group_by, group_of, word_faults, term_faults, claim_faults, IsRefusal}
use Rattle.rg_resolve.specs.Inner.FormulaTrees.{typed_term, typed_claim}
use Rattle.rg_resolve.specs.Typing.{TermStandsFor, ClaimStandsFor, OneTree, FaultlessStand, number, word, next_word, inverse, binary, shifted, choice, truth, negation, joined, implied, compared}
use Rattle.rg_leaves.proofs.Refusals.{no_faults, no_test, no_fault_of_word}
use Rattle.rg_resolve.proofs.Typed.{none_left, none_right, unless-none, both_none, first_of_two, known_group}
use Rattle.rg_leaves.specs.declared.group.Group.TheVariants.{Width}

-- a name is there
the_name : (first : Option (List ℕ)) → is_some first ≡ true → (name : List ℕ) × (first ≡ Some name)
the_name None h = absurd (cc)
the_name (Some name) h = (name, refl)

module _ (words : List Word) (one_state : Bool) where
  found_width : (k : ℕ) (found name : List ℕ) → index_of words found ≡ Some k → found ≡ name → group_at words (index_of words name) ≡ Width (width_at words k)
  found_width k found name at same = ap (λ o. group_at words o) (ap (λ n. index_of words n) (sym same) ∙ at)

  -- the first word of what stands for a tree has its width
  first_width : (w : ℕ) (t : Term) (e : Expression) (name : List ℕ) → TermStandsFor words one_state w t e → first_name t ≡ Some name → group_at words (index_of words name) ≡ Width w
  first_width _ _ _ name (number w x small) h = cc
  first_width _ _ _ name (word k x found) h = found_width k x.text name found cc
  first_width _ _ _ name (next_word k x two found) h = found_width k (unprimed x.text) name found cc
  first_width _ _ _ name (inverse w a x s) h = first_width w a x name s h
  first_width _ _ _ name (binary w o a b x y s r) h = elim (first_of_two _ _ name h) [ inl p ↦ first_width w a x name s p | inr q ↦ first_width w b y name r q ]
  first_width _ _ _ name (shifted w d a x count s small) h = first_width w a x name s h
  first_width _ _ _ name (choice w f a b p x y q s r) h = elim (first_of_two _ _ name h) [ inl p ↦ first_width w a x name s p | inr q ↦ first_width w b y name r q ]

  -- the group of a comparison whose sides stand for trees of one width
  group_is : (w : ℕ) (a b : Term) (x y : Expression) → TermStandsFor words one_state w a x → TermStandsFor words one_state w b y → is_some (option_or (first_name a) (first_name b)) ≡ true → group_of words a b ≡ Width w
  unfolding group_of
  group_is w a b x y s r h =
      let first = the_name _ h in
      ap (λ o. group_by words o) first.1 ∙ elim (first_of_two _ _ first.0 first.1) [ inl p ↦ first_width w a x first.0 s p | inr q ↦ first_width w b y first.0 r q ]

  word_fine : (k line : ℕ) (barred : Bool) (found : Option ℕ) → found ≡ Some k → barred ≡ false → word_faults words (Width (width_at words k)) barred line found ≡ []
  word_fine k line barred found e plain = no_fault_of_word words (Width (width_at words k)) barred line found k e (same_width (width_at words k)) plain
    where
      same_width : (v : ℕ) → not (nat_eq v v) ≡ false
      same_width v = ap not (eq-eqb v v refl)

  -- what stands for a tree has no faults, and the tree is its typed tree
  mutual
    pub term_faultless : (w : ℕ) (t : Term) (e : Expression) → TermStandsFor words one_state w t e → term_faults words one_state (Width w) t ≡ []
    term_faultless _ _ _ (number w x small) = no_test (nat_lt (number_of x.text) (2 ^ w)) NumberTooLarge x.line (lt-ltb _ _ small)
    term_faultless _ _ _ (word k x found) = word_fine k x.line false _ found refl
    term_faultless _ _ _ (next_word k x two found) = word_fine k x.line one_state _ found two
    term_faultless _ _ _ (inverse w a x s) = term_faultless w a x s
    term_faultless _ _ _ (binary w o a b x y s r) = no_faults _ _ (term_faultless w a x s) (term_faultless w b y r)
    term_faultless _ _ _ (shifted w d a x count s small) = no_faults _ _ (term_faultless w a x s) (no_test (nat_le (number_of count.text) MOST_SHIFT) NumberTooLarge count.line (le-leb _ _ small))
    term_faultless _ _ _ (choice w f a b p x y q s r) = no_faults _ _ (claim_faultless f p q) (no_faults _ _ (term_faultless w a x s) (term_faultless w b y r))

    pub claim_faultless : (f : Claim) (p : Proposition) → ClaimStandsFor words one_state f p → claim_faults words one_state f ≡ []
    claim_faultless _ _ (truth b) = refl
    claim_faultless _ _ (negation f p s) = claim_faultless f p s
    claim_faultless _ _ (joined j f g p q s r) = no_faults _ _ (claim_faultless f p s) (claim_faultless g q r)
    claim_faultless _ _ (implied d f g p q s r) = no_faults _ _ (claim_faultless f p s) (claim_faultless g q r)
    claim_faultless _ _ (compared c w a b x y s r some) =
        rw (group_is w a b x y s r some) (no_faults _ _ (term_faultless w a x s) (term_faultless w b y r))

  mutual
    pub term_tree : (w : ℕ) (t : Term) (e : Expression) → TermStandsFor words one_state w t e → e ≡ typed_term words w t
    term_tree _ _ _ (number w x small) = refl
    term_tree _ _ _ (word k x found) = rw found refl
    term_tree _ _ _ (next_word k x two found) = rw found refl
    term_tree _ _ _ (inverse w a x s) = ap (tree.inverse w) (term_tree w a x s)
    term_tree _ _ _ (binary w o a b x y s r) = rw (term_tree w a x s, term_tree w b y r) refl
    term_tree _ _ _ (shifted w d a x count s small) = rw (term_tree w a x s) refl
    term_tree _ _ _ (choice w f a b p x y q s r) = rw (claim_tree f p q, term_tree w a x s, term_tree w b y r) refl

    pub claim_tree : (f : Claim) (p : Proposition) → ClaimStandsFor words one_state f p → p ≡ typed_claim words f
    claim_tree _ _ (truth b) = refl
    claim_tree _ _ (negation f p s) = ap tree.negation (claim_tree f p s)
    claim_tree _ _ (joined j f g p q s r) = rw (claim_tree f p s, claim_tree g q r) refl
    claim_tree _ _ (implied d f g p q s r) = rw (claim_tree f p s, claim_tree g q r) refl
    claim_tree _ _ (compared c w a b x y s r some) = rw (group_is w a b x y s r some, term_tree w a x s, term_tree w b y r) refl

  width_of_word : (w k line : ℕ) (barred : Bool) → word_faults words (Width w) barred line (Some k) ≡ [] → width_at words k ≡ w
  width_of_word w k line barred h = eqb-true _ _ (not-false _ (both_none _ _ _ h).0)

  word_stands : (w : ℕ) (x : Leaf) (found : Option ℕ) → index_of words x.text ≡ found → word_faults words (Width w) false x.line found ≡ [] → TermStandsFor words one_state w (written.word x) (tree.word (unwrap_or found 0))
  word_stands w x None e h = cc
  word_stands w x (Some k) e h =
      let P : ℕ → Type 0 = λ v. TermStandsFor words one_state v (written.word x) (tree.word k) in
      subst P (width_of_word w k x.line false h) (word k x e)

  next_stands : (w : ℕ) (x : Leaf) (found : Option ℕ) → index_of words (unprimed x.text) ≡ found → word_faults words (Width w) one_state x.line found ≡ [] → TermStandsFor words one_state w (written.next_word x) (tree.next_word (unwrap_or found 0))
  next_stands w x None e h = cc
  next_stands w x (Some k) e h =
      let two = not-true _ (unless-none _ _ _ (both_none _ _ _ h).1) in
      let P : ℕ → Type 0 = λ v. TermStandsFor words one_state v (written.next_word x) (tree.next_word k) in
      subst P (width_of_word w k x.line one_state h) (next_word k x two e)

  has_first : (first : Option (List ℕ)) (w : ℕ) → group_by words first ≡ Width w → is_some first ≡ true
  has_first None w e = cc
  has_first (Some name) w e = refl

  has_first_word : (w : ℕ) (a b : Term) → group_of words a b ≡ Width w → is_some (option_or (first_name a) (first_name b)) ≡ true
  unfolding group_of
  has_first_word w a b e = has_first _ w e

  -- what has no faults stands for its typed tree
  mutual
    pub term_stands : (w : ℕ) (t : Term) → term_faults words one_state (Width w) t ≡ [] → TermStandsFor words one_state w t (typed_term words w t)
    term_stands w (written.number x) h = number w x (ltb-true _ _ (unless-none _ _ _ h))
    term_stands w (written.word x) h = word_stands w x _ refl h
    term_stands w (written.next_word x) h = next_stands w x _ refl h
    term_stands w (written.inverse a) h = inverse w a _ (term_stands w a h)
    term_stands w (written.binary o a b) h = binary w o a b _ _ (term_stands w a (none_left _ _ h)) (term_stands w b (none_right _ _ h))
    term_stands w (written.shifted d a count) h = shifted w d a _ count (term_stands w a (none_left _ _ h)) (leb-true _ _ (unless-none _ _ _ (none_right _ _ h)))
    term_stands w (written.choice f a b) h =
        let rest = none_right _ _ h in
        choice w f a b _ _ _ (claim_stands f (none_left _ _ h)) (term_stands w a (none_left _ _ rest)) (term_stands w b (none_right _ _ rest))

    pub claim_stands : (f : Claim) → claim_faults words one_state f ≡ [] → ClaimStandsFor words one_state f (typed_claim words f)
    claim_stands (written.truth b) h = truth b
    claim_stands (written.negation f) h = negation f _ (claim_stands f h)
    claim_stands (written.joined j f g) h = joined j f g _ _ (claim_stands f (none_left _ _ h)) (claim_stands g (none_right _ _ h))
    claim_stands (written.implied d f g) h = implied d f g _ _ (claim_stands f (none_left _ _ h)) (claim_stands g (none_right _ _ h))
    claim_stands (written.compared c a b) h =
        let known = known_group words one_state a b h in
        let w = width_at words known.place in
        let at_width = rw known.is at h in
        rw known.is (compared c w a b _ _ (term_stands w a (none_left _ _ at_width)) (term_stands w b (none_right _ _ at_width)) (has_first_word w a b known.is))

pub one_tree : OneTree
one_tree words one_state f p q s r = claim_tree words one_state f p s ∙ sym (claim_tree words one_state f q r)

pub faultless_stand : FaultlessStand
faultless_stand words one_state f = (λ h. (typed_claim words f, claim_stands words one_state f h), λ s. claim_faultless words one_state f s.0 s.1)

-- a refusal that isn't want of memory reports a fault
pub refused_stands_for_none : (words : List Word) (one_state : Bool) (f : Claim) (file : SourceFile) (refusal : Refusal) → IsRefusal file (claim_faults words one_state f) refusal → (refusal ≡ no_memory) ⊎ ((p : Proposition) → ClaimStandsFor words one_state f p → ⊥)
refused_stands_for_none words one_state f file refusal h = elim h.cause [ inl e ↦ inl e | inr e ↦ inr (λ p s. rw (claim_faultless words one_state f p s) at e) ]
