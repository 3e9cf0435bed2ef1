-- How a printed formula is written, and that it stands for the formula.
use Rattle.std.proofs.Common.{◌≡◌, ℕ, ◌-◌, ◌<◌, ◌≤◌, ◌^◌, Bool, false, ◌||◌, List, [], ◌∷◌, ◌++◌, length, take, Option, Some, None, refl, sym, ap, subst, ◌∙◌, arith, codes, length-append}
use Rattle.std.specs.Prelude.{is_some}
use Rattle.std.specs.Option.{option_or}
use Rattle.std.specs.Fmt.{decimal}
use Rattle.std.proofs.lemmas.Fmt.{decimal_is_IsNumeral}
use Rattle.std.proofs.Math.Nat.{pow-le-pow_right}
use Rattle.std.proofs.lemmas.List.{get_or-map, length-map, take-append-le, take_all}
use Rattle.rg_words.specs.Layout.{Word, IsLayout, index_of, widths_of}
use Rattle.rg_words.specs.declared.operators.Connective.{Connective}
use Rattle.rg_words.specs.declared.operators.Connective.TheVariants as connectives
use Rattle.rg_words.proofs.Words.{found_by_name}
use Rattle.rg_text.specs.declared.kind.Junction.TheVariants as junctions
use Rattle.rg_text.specs.declared.kind.Conditional.TheVariants as conditionals
use Rattle.rg_text.specs.Text.{Leaf, unprimed}
use Rattle.rg_tree.specs.Trees as tree
use Rattle.rg_tree.specs.Trees.{Expression, Proposition}
use Rattle.rg_tree.specs.Typing.{HasWidth, IsTyped}
use Rattle.rg_tree.specs.Printed.{name_text}
use Rattle.rg_syntax.specs.Grammar.{FormulaSpelling, ExpressionSpelling}
use Rattle.rg_syntax.specs.Grammar as grammar
use Rattle.rg_syntax.specs.Written as written
use Rattle.rg_syntax.specs.Written.{Term, Claim}
use Rattle.rg_syntax.specs.Texts.{claim_of, term_of}
use Rattle.rg_resolve.specs.Faults.{number_of, first_name}
use Rattle.rg_resolve.specs.Typing.{TermStandsFor, ClaimStandsFor, number, word, next_word, inverse, binary, shifted, choice, truth, negation, joined, implied, compared}
use Rattle.rg_parse.specs.PrintedBack.{names_word, ComparesWordsInside, ComparesWords, ReadComparesWords}

-- a text in the first line
abbrev pub printed_leaf : List ℕ → Leaf
printed_leaf text = record { text = text; line = 1 }

-- a chain of two, or a conditional
abbrev pub connected_as : Connective → FormulaSpelling → FormulaSpelling → FormulaSpelling
connected_as connectives.And f g = grammar.junction junctions.And (grammar.pair f g)
connected_as connectives.Or f g = grammar.junction junctions.Or (grammar.pair f g)
connected_as connectives.Implies f g = grammar.conditional conditionals.Implies f g
connected_as connectives.Iff f g = grammar.conditional conditionals.Iff f g

-- how a printed formula, and a printed expression, is written
abbrev mutual
  pub printed_formula : List Word → Proposition → FormulaSpelling
  printed_formula words (tree.truth b) = grammar.truth b
  printed_formula words (tree.negation f) = grammar.negation (printed_formula words f)
  printed_formula words (tree.connected c f g) = connected_as c (printed_formula words f) (printed_formula words g)
  printed_formula words (tree.compared c a b) = grammar.comparison c (printed_expression words a) (printed_expression words b)

  pub printed_expression : List Word → Expression → ExpressionSpelling
  printed_expression words (tree.number w n) = grammar.numeral (printed_leaf (decimal n))
  printed_expression words (tree.word k) = grammar.word (printed_leaf (name_text words k))
  printed_expression words (tree.next_word k) = grammar.next_word (printed_leaf (name_text words k ++ 39 ∷ []))
  printed_expression words (tree.inverse w a) = grammar.inverse (printed_expression words a)
  printed_expression words (tree.binary o w a b) = grammar.operation o (printed_expression words a) (printed_expression words b)
  printed_expression words (tree.shifted d w a k) = grammar.shift d (printed_expression words a) (printed_leaf (decimal k))
  printed_expression words (tree.choice f a b) = grammar.choice (printed_leaf (codes "if")) (printed_formula words f) (printed_expression words a) (printed_expression words b)

-- a word, where one is asked for and none is read
abbrev pub no_word : Word
no_word = record { name = []; width = 0; fixed = false }

-- the digits of a number are read as the number
pub number_back : (n : ℕ) → n < 2 ^ 64 → number_of (decimal n) ≡ n
number_back n small = (decimal_is_IsNumeral n small).1

pub within_word : (n w : ℕ) → n < 2 ^ w → w ≤ 64 → n < 2 ^ 64
within_word n w small most = let bound : 2 ^ w ≤ 2 ^ 64 = pow-le-pow_right (omega arith) most in omega (arith, bound)

unprimed_back : (text : List ℕ) → unprimed (text ++ 39 ∷ []) ≡ text
unprimed_back text =
    let n : length (text ++ 39 ∷ []) - 1 ≡ length text = omega (arith, length-append text (39 ∷ [])) in
    ap (λ n. take n (text ++ 39 ∷ [])) n ∙ take-append-le (length text) text (39 ∷ []) (omega arith) ∙ take_all (length text) text (omega arith)

or_some : (a b : Option (List ℕ)) → is_some (option_or a b) ≡ (is_some a || is_some b)
or_some (Some x) b = refl
or_some None b = refl

either_some : (a b : Option (List ℕ)) (v w : Bool) → is_some a ≡ v → is_some b ≡ w → is_some (option_or a b) ≡ (v || w)
either_some a b v w e f = or_some a b ∙ ap (λ v. v || is_some b) e ∙ ap (λ w. v || w) f

-- the printed expression has a word where the expression has one
has_first : (words : List Word) (e : Expression) → is_some (first_name (term_of (printed_expression words e))) ≡ names_word e
has_first words (tree.number w n) = refl
has_first words (tree.word k) = refl
has_first words (tree.next_word k) = refl
has_first words (tree.inverse w a) = has_first words a
has_first words (tree.binary o w a b) = either_some _ _ _ _ (has_first words a) (has_first words b)
has_first words (tree.shifted d w a k) = has_first words a
has_first words (tree.choice f a b) = either_some _ _ _ _ (has_first words a) (has_first words b)

-- a junction or a conditional stands for its connective
connected_stands : (words : List Word) (c : Connective) (s t : FormulaSpelling) (f g : Proposition) → ClaimStandsFor words false (claim_of s) f → ClaimStandsFor words false (claim_of t) g → ClaimStandsFor words false (claim_of (connected_as c s t)) (tree.connected c f g)
connected_stands words connectives.And s t f g p q = joined junctions.And _ _ f g p q
connected_stands words connectives.Or s t f g p q = joined junctions.Or _ _ f g p q
connected_stands words connectives.Implies s t f g p q = implied conditionals.Implies _ _ f g p q
connected_stands words connectives.Iff s t f g p q = implied conditionals.Iff _ _ f g p q

module _ (words : List Word) (layout : IsLayout words) where
  found_back : (k : ℕ) → k < length (widths_of words) → index_of words (name_text words k) ≡ Some k
  found_back k within =
      let inside : k < length words = omega (arith, length-map words (λ w. w.width)) in
      ap (index_of words) (get_or-map (λ w. w.name) words k no_word [] inside) ∙ found_by_name words k no_word layout inside

  number_stands : (w n : ℕ) → n < 2 ^ w → w ≤ 64 → TermStandsFor words false w (written.number (printed_leaf (decimal n))) (tree.number w n)
  number_stands w n small most =
      let e = number_back n (within_word n w small most) in
      subst (λ m. TermStandsFor words false w (written.number (printed_leaf (decimal n))) (tree.number w m)) e (number w (printed_leaf (decimal n)) (subst (λ m. m < 2 ^ w) (sym e) small))

  shift_stands : (w : ℕ) (d : _) (a : Term) (x : Expression) (k : ℕ) → TermStandsFor words false w a x → k ≤ 63 → TermStandsFor words false w (written.shifted d a (printed_leaf (decimal k))) (tree.shifted d w x k)
  shift_stands w d a x k s small =
      let e = number_back k (omega arith) in
      subst (λ m. TermStandsFor words false w (written.shifted d a (printed_leaf (decimal k))) (tree.shifted d w x m)) e (shifted w d a x (printed_leaf (decimal k)) s (subst (λ m. m ≤ 63) (sym e) small))

  mutual
    pub printed_stands : (f : Proposition) → IsTyped (widths_of words) f → ComparesWords f → ClaimStandsFor words false (claim_of (printed_formula words f)) f
    printed_stands (tree.truth b) typed named = truth b
    printed_stands (tree.negation f) typed named = negation _ f (printed_stands f typed named)
    printed_stands (tree.connected c f g) typed named =
        connected_stands words c _ _ f g (printed_stands f typed.0 named.0) (printed_stands g typed.1 named.1)
    printed_stands (tree.compared c a b) typed named =
        compared c typed.0 _ _ a b (printed_term_stands a typed.0 typed.1 named.1) (printed_term_stands b typed.0 typed.2 named.2)
        (either_some _ _ _ _ (has_first words a) (has_first words b) ∙ named.0)

    pub printed_term_stands : (e : Expression) (w : ℕ) → HasWidth (widths_of words) e w → ComparesWordsInside e → TermStandsFor words false w (term_of (printed_expression words e)) e
    printed_term_stands (tree.number v n) w fits named =
        subst (λ v. TermStandsFor words false w (written.number (printed_leaf (decimal n))) (tree.number v n)) (sym fits.0) (number_stands w n fits.1 fits.2)
    printed_term_stands (tree.word k) w fits named =
        subst (λ v. TermStandsFor words false v (written.word (printed_leaf (name_text words k))) (tree.word k)) fits.1 (word k _ (found_back k fits.0))
    printed_term_stands (tree.next_word k) w fits named =
        subst (λ v. TermStandsFor words false v (written.next_word (printed_leaf (name_text words k ++ 39 ∷ []))) (tree.next_word k)) fits.1
        (next_word k (printed_leaf (name_text words k ++ 39 ∷ [])) refl (ap (index_of words) (unprimed_back (name_text words k)) ∙ found_back k fits.0))
    printed_term_stands (tree.inverse v a) w fits named =
        subst (λ v. TermStandsFor words false w (written.inverse (term_of (printed_expression words a))) (tree.inverse v a)) (sym fits.0)
        (inverse w _ a (printed_term_stands a w fits.1 named))
    printed_term_stands (tree.binary o v a b) w fits named =
        subst (λ v. TermStandsFor words false w (written.binary o (term_of (printed_expression words a)) (term_of (printed_expression words b))) (tree.binary o v a b)) (sym fits.0)
        (binary w o _ _ a b (printed_term_stands a w fits.1 named.0) (printed_term_stands b w fits.2 named.1))
    printed_term_stands (tree.shifted d v a k) w fits named =
        subst (λ v. TermStandsFor words false w (written.shifted d (term_of (printed_expression words a)) (printed_leaf (decimal k))) (tree.shifted d v a k)) (sym fits.0)
        (shift_stands w d _ a k (printed_term_stands a w fits.1 named) fits.2)
    printed_term_stands (tree.choice f a b) w fits named =
        choice w _ _ _ f a b (printed_stands f fits.0 named.0) (printed_term_stands a w fits.1 named.1) (printed_term_stands b w fits.2 named.2)

-- what stands for a tree has a word where the tree has one
same_first : (words : List Word) (one_state : Bool) (w : ℕ) (t : Term) (e : Expression) → TermStandsFor words one_state w t e → is_some (first_name t) ≡ names_word e
same_first words one_state _ _ _ (number w x small) = refl
same_first words one_state _ _ _ (word k x found) = refl
same_first words one_state _ _ _ (next_word k x two found) = refl
same_first words one_state _ _ _ (inverse w a x s) = same_first words one_state w a x s
same_first words one_state _ _ _ (binary w o a b x y s r) = either_some _ _ _ _ (same_first words one_state w a x s) (same_first words one_state w b y r)
same_first words one_state _ _ _ (shifted w d a x count s small) = same_first words one_state w a x s
same_first words one_state _ _ _ (choice w f a b p x y q s r) = either_some _ _ _ _ (same_first words one_state w a x s) (same_first words one_state w b y r)

mutual
  pub read_compares_words : ReadComparesWords
  read_compares_words words one_state _ _ (truth b) = tt
  read_compares_words words one_state _ _ (negation f p s) = read_compares_words words one_state f p s
  read_compares_words words one_state _ _ (joined j f g p q s r) = (read_compares_words words one_state f p s, read_compares_words words one_state g q r)
  read_compares_words words one_state _ _ (implied d f g p q s r) = (read_compares_words words one_state f p s, read_compares_words words one_state g q r)
  read_compares_words words one_state _ _ (compared c w a b x y s r some) = (
    sym (either_some _ _ _ _ (same_first words one_state w a x s) (same_first words one_state w b y r)) ∙ some,
    term_compares_words words one_state w a x s,
    term_compares_words words one_state w b y r,
  )

  term_compares_words : (words : List Word) (one_state : Bool) (w : ℕ) (t : Term) (e : Expression) → TermStandsFor words one_state w t e → ComparesWordsInside e
  term_compares_words words one_state _ _ _ (number w x small) = tt
  term_compares_words words one_state _ _ _ (word k x found) = tt
  term_compares_words words one_state _ _ _ (next_word k x two found) = tt
  term_compares_words words one_state _ _ _ (inverse w a x s) = term_compares_words words one_state w a x s
  term_compares_words words one_state _ _ _ (binary w o a b x y s r) = (term_compares_words words one_state w a x s, term_compares_words words one_state w b y r)
  term_compares_words words one_state _ _ _ (shifted w d a x count s small) = term_compares_words words one_state w a x s
  term_compares_words words one_state _ _ _ (choice w f a b p x y q s r) =
      (read_compares_words words one_state f p q, term_compares_words words one_state w a x s, term_compares_words words one_state w b y r)
