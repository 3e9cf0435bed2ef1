-- A formula without faults is typed, fits its words, and has no primed word where one state is spoken of.
use Rattle.std.proofs.Common.{◌≡◌, ℕ, ◌<◌, ◌≤◌, Bool, true, false, cond, ◌||◌, List, [], ◌∷◌, ◌++◌, length, refl, ap, ◌∙◌, arith, inl, inr}
use Rattle.std.specs.Prelude.{Option, Some, None, ◌⊎◌}
use Rattle.std.specs.Option.{option_or, unwrap_or}
use Rattle.std.specs.Str.{bytes_eq}
use Rattle.std.proofs.lemmas.Bool.{ltb-true, leb-true, eqb-true, not-false, false≢true}
use Rattle.std.proofs.lemmas.List.{length-map, get_or-map}
use Rattle.std.proofs.lemmas.List.Quantifiers.{position-Some}
use Rattle.rg_words.specs.declared.limits.TheConstants.{MOST_WIDTH}
use Rattle.rg_words.specs.declared.refusal.RefusalNumber.{RefusalNumber}
use Rattle.rg_words.specs.Layout.{Word, IsLayout, index_of, widths_of}
use Rattle.rg_tree.specs.Typing.{HasWidth, IsTyped}
use Rattle.rg_tree.specs.Primes.{has_next_word, speaks_of_two}
use Rattle.rg_text.specs.Text.{unprimed}
use Rattle.rg_syntax.specs.Written.{Term, Claim, number, word, next_word, inverse, binary, shifted, choice, truth, negation, joined, implied, compared}
use Rattle.rg_resolve.specs.Faults.{Fault, width_at, first_name, group_at, group_by, group_of, after_first, unless, word_faults, term_faults, claim_faults}
use Rattle.rg_resolve.specs.Inner.FormulaTrees.{place_of, typed_term, typed_claim}
use Rattle.rg_leaves.specs.declared.group.Group.{Group}
use Rattle.rg_leaves.specs.declared.group.Group.TheVariants.{Width, Unasked, Wordless}

-- two lists that are joined to none
pub none_left : {A : Type 0} (xs ys : List A) → xs ++ ys ≡ [] → xs ≡ []
none_left [] ys h = refl
none_left (x ∷ xs) ys h = cc

pub none_right : {A : Type 0} (xs ys : List A) → xs ++ ys ≡ [] → ys ≡ []
none_right [] ys h = h
none_right (x ∷ xs) ys h = cc

-- a test that has no fault holds
pub unless-none : (test : Bool) (what : RefusalNumber) (line : ℕ) → unless test what line ≡ [] → test ≡ true
unless-none true what line h = refl
unless-none false what line h = cc

-- the first word of two operands is that of one of them
pub first_of_two : (x y : Option (List ℕ)) (name : List ℕ) → option_or x y ≡ Some name → (x ≡ Some name) ⊎ (y ≡ Some name)
first_of_two None y name h = inr h
first_of_two (Some x) y name h = inl h

no_first : (x y : Option (List ℕ)) → option_or x y ≡ None → x ≡ None
no_first None y h = refl
no_first (Some x) y h = cc

-- a list that begins with a fault where a test holds is empty
pub both_none : (test : Bool) (fault : Fault) (rest : List Fault) → cond test (fault ∷ []) rest ≡ [] → (test ≡ false) × (rest ≡ [])
both_none true fault rest h = cc
both_none false fault rest h = (refl, h)

-- a word that is found is one of them
pub found_within : (words : List Word) (name : List ℕ) (k : ℕ) → index_of words name ≡ Some k → k < length words
found_within [] name k h = cc
found_within (w ∷ ws) name k h = (position-Some (λ v. bytes_eq name v.name) (w ∷ ws) k w h).0

-- what no fault of a word says
word_is_found : (words : List Word) (group : Group) (barred : Bool) (line : ℕ) (found : Option ℕ) → found ≡ None → word_faults words group barred line found ≡ [] → ⊥
word_is_found words group barred line None e h = cc
word_is_found words group barred line (Some k) e h = cc

word_has_width : (words : List Word) (w line : ℕ) (barred : Bool) (found : Option ℕ) → ((k : ℕ) → found ≡ Some k → k < length words) → word_faults words (Width w) barred line found ≡ [] → (unwrap_or found 0 < length words) × (width_at words (unwrap_or found 0) ≡ w)
word_has_width words w line barred None there h = cc
word_has_width words w line barred (Some k) there h = (there k refl, eqb-true _ _ (not-false _ (both_none _ _ _ h).0))

-- a group without a word has a fault
wordless_faulty : (words : List Word) (one_state : Bool) (t : Term) → first_name t ≡ None → term_faults words one_state Wordless t ≡ [] → ⊥
wordless_faulty words one_state (number n) e h = cc
wordless_faulty words one_state (word x) e h = cc
wordless_faulty words one_state (next_word x) e h = cc
wordless_faulty words one_state (inverse a) e h = wordless_faulty words one_state a e h
wordless_faulty words one_state (binary o a b) e h = wordless_faulty words one_state a (no_first _ _ e) (none_left _ _ h)
wordless_faulty words one_state (shifted d a n) e h = wordless_faulty words one_state a e (none_left _ _ h)
wordless_faulty words one_state (choice f a b) e h = wordless_faulty words one_state a (no_first _ _ e) (none_left _ _ (none_right _ _ h))

-- a group whose first word isn't declared has a fault
unknown_faulty : (words : List Word) (one_state : Bool) (name : List ℕ) → index_of words name ≡ None → (t : Term) (group : Group) → first_name t ≡ Some name → term_faults words one_state group t ≡ [] → ⊥
unknown_faulty words one_state name u (number n) group e h = cc
unknown_faulty words one_state name u (word x) group e h =
    let same : x.text ≡ name = cc in word_is_found words group false x.line _ (ap (λ n. index_of words n) same ∙ u) h
unknown_faulty words one_state name u (next_word x) group e h =
    let same : unprimed x.text ≡ name = cc in word_is_found words group one_state x.line _ (ap (λ n. index_of words n) same ∙ u) h
unknown_faulty words one_state name u (inverse a) group e h = unknown_faulty words one_state name u a group e h
unknown_faulty words one_state name u (binary o a b) group e h = elim (first_of_two _ _ name e) [
  | inl p ↦ unknown_faulty words one_state name u a group p (none_left _ _ h)
  | inr q ↦ unknown_faulty words one_state name u b (after_first group) q (none_right _ _ h)
]
unknown_faulty words one_state name u (shifted d a n) group e h = unknown_faulty words one_state name u a group e (none_left _ _ h)
unknown_faulty words one_state name u (choice f a b) group e h = elim (first_of_two _ _ name e) [
  | inl p ↦ unknown_faulty words one_state name u a group p (none_left _ _ (none_right _ _ h))
  | inr q ↦ unknown_faulty words one_state name u b (after_first group) q (none_right _ _ (none_right _ _ h))
]

-- the widths of words are within the limit
abbrev pub AreNarrow : List Word → Type 0
AreNarrow words = (k : ℕ) → k < length words → width_at words k ≤ MOST_WIDTH

-- where a comparison has no faults, its group has the width of a declared word
pub record IsWidthOfWord (words : List Word) (group : Group) : Type 0 where
  pub place : ℕ
  pub inside : place < length words
  pub is : group ≡ Width (width_at words place)

module _ (words : List Word) (one_state : Bool) (a b : Term) where
  found_group : (name : List ℕ) → option_or (first_name a) (first_name b) ≡ Some name
      → (found : Option ℕ) → index_of words name ≡ found
      → term_faults words one_state (group_at words found) a ++ term_faults words one_state (after_first (group_at words found)) b ≡ []
      → IsWidthOfWord words (group_at words found)
  found_group name e None u h = absurd (elim (first_of_two _ _ name e) [
    | inl p ↦ unknown_faulty words one_state name u a Unasked p (none_left _ _ h)
    | inr q ↦ unknown_faulty words one_state name u b Unasked q (none_right _ _ h)
  ])
  found_group name e (Some k) u h = record { place = k; inside = found_within words name k u; is = refl }

  first_group : (first : Option (List ℕ)) → option_or (first_name a) (first_name b) ≡ first
      → term_faults words one_state (group_by words first) a ++ term_faults words one_state (after_first (group_by words first)) b ≡ []
      → IsWidthOfWord words (group_by words first)
  first_group None e h = absurd (wordless_faulty words one_state a (no_first _ _ e) (none_left _ _ h))
  first_group (Some name) e h = found_group name e (index_of words name) refl h

  pub known_group : term_faults words one_state (group_of words a b) a ++ term_faults words one_state (after_first (group_of words a b)) b ≡ [] → IsWidthOfWord words (group_of words a b)
  unfolding group_of
  known_group h = first_group _ refl h

module _ (words : List Word) (one_state : Bool) (narrow : AreNarrow words) where
  word_typed : (name : List ℕ) (w line : ℕ) (barred : Bool) → word_faults words (Width w) barred line (index_of words name) ≡ [] → (place_of words name < length (widths_of words)) × (width_at words (place_of words name) ≡ w)
  word_typed name w line barred h =
      let found = word_has_width words w line barred (index_of words name) (λ k e. found_within words name k e) h in
      (rw (length-map words (λ v. v.width)) found.0, found.1)

  mutual
    pub term_typed : (t : Term) (w : ℕ) → w ≤ MOST_WIDTH → term_faults words one_state (Width w) t ≡ [] → HasWidth (widths_of words) (typed_term words w t) w
    term_typed (number n) w low h = (refl, ltb-true _ _ (unless-none _ _ _ h), low)
    term_typed (word x) w low h = word_typed x.text w x.line false h
    term_typed (next_word x) w low h = word_typed (unprimed x.text) w x.line one_state h
    term_typed (inverse a) w low h = (refl, term_typed a w low h)
    term_typed (binary o a b) w low h = (refl, term_typed a w low (none_left _ _ h), term_typed b w low (none_right _ _ h))
    term_typed (shifted d a n) w low h = (refl, term_typed a w low (none_left _ _ h), leb-true _ _ (unless-none _ _ _ (none_right _ _ h)))
    term_typed (choice f a b) w low h =
        let rest = none_right _ _ h in
        (claim_typed f (none_left _ _ h), term_typed a w low (none_left _ _ rest), term_typed b w low (none_right _ _ rest))

    pub claim_typed : (f : Claim) → claim_faults words one_state f ≡ [] → IsTyped (widths_of words) (typed_claim words f)
    claim_typed (truth b) h = tt
    claim_typed (negation f) h = claim_typed f h
    claim_typed (joined j f g) h = (claim_typed f (none_left _ _ h), claim_typed g (none_right _ _ h))
    claim_typed (implied d f g) h = (claim_typed f (none_left _ _ h), claim_typed g (none_right _ _ h))
    claim_typed (compared c a b) h =
        let known = known_group words one_state a b h in
        let w = width_at words known.place in
        let low = narrow known.place known.inside in
        let at_width = rw known.is at h in
        (w, rw known.is (term_typed a w low (none_left _ _ at_width)), rw known.is (term_typed b w low (none_right _ _ at_width)))

-- a primed word has a fault where one state is spoken of
primed_faulty : (words : List Word) (group : Group) (line : ℕ) (found : Option ℕ) → word_faults words group true line found ≡ [] → ⊥
primed_faulty words group line None h = cc
primed_faulty words group line (Some k) h = false≢true (unless-none _ _ _ (both_none _ _ _ h).1)

neither : (x y : Bool) → x ≡ false → y ≡ false → (x || y) ≡ false
neither x y p q = rw (p, q) refl

mutual
  pub term_plain : (words : List Word) (group : Group) (w : ℕ) (t : Term) → term_faults words true group t ≡ [] → has_next_word (typed_term words w t) ≡ false
  term_plain words group w (number n) h = refl
  term_plain words group w (word x) h = refl
  term_plain words group w (next_word x) h = absurd (primed_faulty words group x.line _ h)
  term_plain words group w (inverse a) h = term_plain words group w a h
  term_plain words group w (binary o a b) h = neither _ _ (term_plain words group w a (none_left _ _ h)) (term_plain words (after_first group) w b (none_right _ _ h))
  term_plain words group w (shifted d a n) h = term_plain words group w a (none_left _ _ h)
  term_plain words group w (choice f a b) h =
      let rest = none_right _ _ h in
      neither _ _ (neither _ _ (claim_plain words f (none_left _ _ h)) (term_plain words group w a (none_left _ _ rest))) (term_plain words (after_first group) w b (none_right _ _ rest))

  pub claim_plain : (words : List Word) (f : Claim) → claim_faults words true f ≡ [] → speaks_of_two (typed_claim words f) ≡ false
  claim_plain words (truth b) h = refl
  claim_plain words (negation f) h = claim_plain words f h
  claim_plain words (joined j f g) h = neither _ _ (claim_plain words f (none_left _ _ h)) (claim_plain words g (none_right _ _ h))
  claim_plain words (implied d f g) h = neither _ _ (claim_plain words f (none_left _ _ h)) (claim_plain words g (none_right _ _ h))
  claim_plain words (compared c a b) h = neither _ _ (term_plain words (group_of words a b) _ a (none_left _ _ h)) (term_plain words (after_first (group_of words a b)) _ b (none_right _ _ h))

-- the words of a layout are narrow
pub layout_is_narrow : (words : List Word) → IsLayout words → AreNarrow words
layout_is_narrow [] layout k inside = absurd (omega arith)
layout_is_narrow (w ∷ ws) layout k inside =
    let same = get_or-map (λ (v : Word). v.width) (w ∷ ws) k w 0 inside in
    rw same (layout.widths k w inside).1
