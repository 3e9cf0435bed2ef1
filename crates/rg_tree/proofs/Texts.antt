-- Texts of trees, put together.
use Rattle.std.proofs.Common.{◌≡◌, ℕ, List, [], ◌∷◌, ◌++◌, refl, ap, sym, ◌∙◌, append_assoc}
use Rattle.std.specs.Prelude.{codes}
use Rattle.std.specs.Fmt.{decimal}
use Rattle.rg_words.specs.Layout.{Word}
use Rattle.rg_tree.specs.Trees.{Expression, Proposition, number, word, next_word, inverse, binary, shifted, choice, truth, negation, connected, compared}
use Rattle.rg_tree.specs.Printed.{operator_text, shift_text, comparison_text, connective_text, truth_text, name_text, between, expression_text, formula_text}

-- a word or symbol, and then a text and the rest
between_then : (text a b : List ℕ) → between text (a ++ b) ≡ between text a ++ b
between_then text a b = ap (λ t. 32 ∷ t) (sym (append_assoc text (32 ∷ a) b))

then_more : (text a b : List ℕ) → text ++ (a ++ b) ≡ text ++ a ++ b
then_more text a b = sym (append_assoc text a b)

mutual
  -- what stands after an expression's text stands there unchanged
  pub expression_then : (words : List Word) (e : Expression) (a b : List ℕ) → expression_text words e (a ++ b) ≡ expression_text words e a ++ b
  expression_then words (number w n) a b = then_more (decimal n) a b
  expression_then words (word k) a b = then_more (name_text words k) a b
  expression_then words (next_word k) a b = then_more (name_text words k) (39 ∷ a) b
  expression_then words (inverse w e) a b = ap (λ t. codes "inv " ++ t) (expression_then words e a b)
  expression_then words (binary o w e f) a b =
      ap (λ t. 40 ∷ t)
      (ap (λ t. expression_text words e (between (operator_text o) t)) (expression_then words f (41 ∷ a) b)
      ∙ ap (expression_text words e) (between_then (operator_text o) (expression_text words f (41 ∷ a)) b)
      ∙ expression_then words e (between (operator_text o) (expression_text words f (41 ∷ a))) b)
  expression_then words (shifted d w e k) a b =
      ap (λ t. 40 ∷ t)
      (ap (λ t. expression_text words e (between (shift_text d) t)) (then_more (decimal k) (41 ∷ a) b)
      ∙ ap (expression_text words e) (between_then (shift_text d) (decimal k ++ (41 ∷ a)) b)
      ∙ expression_then words e (between (shift_text d) (decimal k ++ (41 ∷ a))) b)
  expression_then words (choice f e g) a b =
      ap (λ t. codes "(if " ++ t)
      (ap (λ t. formula_text words f (between (codes "then") (expression_text words e (between (codes "else") t)))) (expression_then words g (41 ∷ a) b)
      ∙ ap (λ t. formula_text words f (between (codes "then") t)) (expression_then words e (between (codes "else") (expression_text words g (41 ∷ a))) b)
      ∙ formula_then words f (between (codes "then") (expression_text words e (between (codes "else") (expression_text words g (41 ∷ a))))) b)

  -- what stands after a formula's text stands there unchanged
  pub formula_then : (words : List Word) (f : Proposition) (a b : List ℕ) → formula_text words f (a ++ b) ≡ formula_text words f a ++ b
  formula_then words (truth t) a b = then_more (truth_text t) a b
  formula_then words (negation f) a b = ap (λ t. codes "not " ++ t) (formula_then words f a b)
  formula_then words (connected c f g) a b =
      ap (λ t. 40 ∷ t)
      (ap (λ t. formula_text words f (between (connective_text c) t)) (formula_then words g (41 ∷ a) b)
      ∙ ap (formula_text words f) (between_then (connective_text c) (formula_text words g (41 ∷ a)) b)
      ∙ formula_then words f (between (connective_text c) (formula_text words g (41 ∷ a))) b)
  formula_then words (compared c e f) a b =
      ap (λ t. 40 ∷ t)
      (ap (λ t. expression_text words e (between (comparison_text c) t)) (expression_then words f (41 ∷ a) b)
      ∙ ap (expression_text words e) (between_then (comparison_text c) (expression_text words f (41 ∷ a)) b)
      ∙ expression_then words e (between (comparison_text c) (expression_text words f (41 ∷ a))) b)

-- what is pushed in turn: a text, and then the rest
then_pushed : (X : List ℕ → List ℕ) → ((a b : List ℕ) → X (a ++ b) ≡ X a ++ b) → (old middle new rest : List ℕ) → middle ≡ old ++ X [] → new ≡ middle ++ rest → new ≡ old ++ X rest
then_pushed X more old middle new rest e f = rw (f, e, append_assoc old (X []) rest) (ap (λ t. old ++ t) (sym (more [] rest)))

-- two texts in parentheses, with a word or symbol between them
pub pair_pushed : (A B : List ℕ → List ℕ) → ((a b : List ℕ) → A (a ++ b) ≡ A a ++ b) → ((a b : List ℕ) → B (a ++ b) ≡ B a ++ b) → (text old opened first middle second new : List ℕ) → opened ≡ old ++ codes "(" → first ≡ opened ++ A [] → middle ≡ first ++ between text [] → second ≡ middle ++ B [] → new ≡ second ++ codes ")" → new ≡ old ++ (codes "(" ++ A (between text (B (codes ")"))))
pair_pushed A B a_then b_then text old opened first middle second new e f g h k =
    then_pushed (λ t. codes "(" ++ t) (λ a b. refl) old opened new _ e
    (then_pushed A a_then opened first new _ f
    (then_pushed (between text) (between_then text) first middle new _ g
    (then_pushed B b_then middle second new _ h k)))

-- three texts in the parentheses of a choice
pub choice_pushed : (F A B : List ℕ → List ℕ) → ((a b : List ℕ) → F (a ++ b) ≡ F a ++ b) → ((a b : List ℕ) → A (a ++ b) ≡ A a ++ b) → ((a b : List ℕ) → B (a ++ b) ≡ B a ++ b) → (old opened test chosen first other second new : List ℕ) → opened ≡ old ++ codes "(if " → test ≡ opened ++ F [] → chosen ≡ test ++ between (codes "then") [] → first ≡ chosen ++ A [] → other ≡ first ++ between (codes "else") [] → second ≡ other ++ B [] → new ≡ second ++ codes ")" → new ≡ old ++ (codes "(if " ++ F (between (codes "then") (A (between (codes "else") (B (codes ")"))))))
choice_pushed F A B f_then a_then b_then old opened test chosen first other second new e f g h k l m =
    then_pushed (λ t. codes "(if " ++ t) (λ a b. refl) old opened new _ e
    (then_pushed F f_then opened test new _ f
    (then_pushed (between (codes "then")) (between_then (codes "then")) test chosen new _ g
    (then_pushed A a_then chosen first new _ h
    (then_pushed (between (codes "else")) (between_then (codes "else")) first other new _ k
    (then_pushed B b_then other second new _ l m)))))

pub decimal_then : (n : ℕ) (a b : List ℕ) → decimal n ++ (a ++ b) ≡ decimal n ++ a ++ b
decimal_then n a b = then_more (decimal n) a b
