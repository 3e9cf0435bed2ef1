-- Typed trees: values below 2 to the power of the width, and trees that fit.
use Rattle.std.proofs.Common.{◌≡◌, ◌≤◌, ◌<◌, ◌-◌, ◌^◌, ℕ, zero, suc, Bool, true, false, cond, get_or, List, [], ◌∷◌, length, sym, subst, arith}
use Rattle.std.proofs.lemmas.List.{length-map, get_or-map}
use Rattle.std.proofs.lemmas.Nat.{pow_pos, and_le_l, or_lt, xor_lt, shr_le}
use Rattle.std.proofs.Math.Nat.{mod-lt}
use Rattle.rg_words.specs.declared.operators.Operator.{Operator}
use Rattle.rg_words.specs.declared.operators.Operator.TheVariants.{Add, Subtract, BitAnd, BitOr, BitXor}
use Rattle.rg_words.specs.declared.operators.Shift.{Shift}
use Rattle.rg_words.specs.declared.operators.Shift.TheVariants.{Left, Right}
use Rattle.rg_words.specs.Layout.{Word, widths_of, IsLayout}
use Rattle.rg_words.specs.States.{AreValues}
use Rattle.rg_tree.specs.Trees.{Expression, Proposition, Assignment, number, word, next_word, inverse, binary, shifted, choice, truth, negation, connected, compared}
use Rattle.rg_tree.specs.Meaning.{operated, moved, value_of, holds}
use Rattle.rg_tree.specs.Fits.{ExpressionFits, FormulaFits}
use Rattle.rg_tree.specs.Typing.{HasWidth, IsTyped}
use Rattle.rg_tree.specs.ConditionTrees.{SecondState, same, free, after, AllFit, AssignmentsFit, SecondFits, AllTyped, AssignmentsTyped, SecondTyped}
use Rattle.rg_tree.specs.WellTyped.{ValuesStayWithinWidth, TypedExpressionsFit, TypedFormulasFit, TypedConditionsFit}

-- a word's value is below 2 to the power of its width
value_within : (widths s : List ℕ) (k : ℕ) → AreValues widths s → k < length widths → get_or s k 0 < 2 ^ get_or widths k 0
value_within [] s k h lt = absurd (omega arith)
value_within (w ∷ ws) [] k h lt = absurd h
value_within (w ∷ ws) (x ∷ xs) zero h lt = h.0
value_within (w ∷ ws) (x ∷ xs) (suc k) h lt = value_within ws xs k h.1 (omega arith)

operated_within : (o : Operator) (w a b : ℕ) → a < 2 ^ w → b < 2 ^ w → operated o w a b < 2 ^ w
operated_within Add w a b h k = mod-lt _ (pow_pos w)
operated_within Subtract w a b h k = mod-lt _ (pow_pos w)
operated_within BitAnd w a b h k = omega (arith, and_le_l a b)
operated_within BitOr w a b h k = or_lt w a b h k
operated_within BitXor w a b h k = xor_lt w a b h k

moved_within : (d : Shift) (w a k : ℕ) → a < 2 ^ w → moved d w a k < 2 ^ w
moved_within Left w a k h = mod-lt _ (pow_pos w)
moved_within Right w a k h = omega (arith, shr_le a k)

inverted_within : (w a : ℕ) → 2 ^ w - 1 - a < 2 ^ w
inverted_within w a = omega (arith, pow_pos w)

chosen_within : (b : Bool) (n x y : ℕ) → x < n → y < n → cond b x y < n
chosen_within true n x y h k = h
chosen_within false n x y h k = k

-- along an equation of widths
at_width : (n v w : ℕ) → v ≡ w → n < 2 ^ v → n < 2 ^ w
at_width n v w e h = let P : ℕ → Type 0 = λ x. n < 2 ^ x in subst P e h

pub values_within : ValuesStayWithinWidth
values_within widths s t (number v n) w h first second = h.1
values_within widths s t (word k) w h first second = at_width _ _ w h.1 (value_within widths s k first h.0)
values_within widths s t (next_word k) w h first second = at_width _ _ w h.1 (value_within widths t k second h.0)
values_within widths s t (inverse v a) w h first second = at_width _ v w h.0 (inverted_within v (value_of a s t))
values_within widths s t (binary o v a b) w h first second =
    at_width _ v w h.0 (operated_within o v (value_of a s t) (value_of b s t)
    (at_width _ w v (sym h.0) (values_within widths s t a w h.1 first second))
    (at_width _ w v (sym h.0) (values_within widths s t b w h.2 first second)))
values_within widths s t (shifted d v a k) w h first second =
    at_width _ v w h.0 (moved_within d v (value_of a s t) k (at_width _ w v (sym h.0) (values_within widths s t a w h.1 first second)))
values_within widths s t (choice f a b) w h first second =
    chosen_within (holds f s t) (2 ^ w) (value_of a s t) (value_of b s t) (values_within widths s t a w h.1 first second) (values_within widths s t b w h.2 first second)

-- widths within the limit
abbrev AreWithin : List ℕ → Type 0
AreWithin widths = (k : ℕ) → k < length widths → get_or widths k 0 ≤ 64

are_within : (words : List Word) → IsLayout words → AreWithin (widths_of words)
are_within words h k lt =
    let none : Word = record { name = []; width = 0; fixed = false } in
    let below : k < length words = omega (arith, length-map words (λ w. w.width)) in
    rw (get_or-map (λ w. w.width) words k none 0 below) (h.widths k none below).1

-- along an equation of widths
limit_at : (v w : ℕ) → v ≡ w → w ≤ 64 → v ≤ 64
limit_at v w e h = omega arith

width_within : (widths : List ℕ) → AreWithin widths → (e : Expression) (w : ℕ) → HasWidth widths e w → w ≤ 64
width_within widths limit (number v n) w h = h.2
width_within widths limit (word k) w h = limit_at w _ (sym h.1) (limit k h.0)
width_within widths limit (next_word k) w h = limit_at w _ (sym h.1) (limit k h.0)
width_within widths limit (inverse v a) w h = width_within widths limit a w h.1
width_within widths limit (binary o v a b) w h = width_within widths limit a w h.1
width_within widths limit (shifted d v a k) w h = width_within widths limit a w h.1
width_within widths limit (choice f a b) w h = width_within widths limit a w h.1

mutual
  expression_fits : (widths : List ℕ) → AreWithin widths → (e : Expression) (w : ℕ) → HasWidth widths e w → ExpressionFits e (length widths)
  expression_fits widths limit (number v n) w h = tt
  expression_fits widths limit (word k) w h = h.0
  expression_fits widths limit (next_word k) w h = h.0
  expression_fits widths limit (inverse v a) w h = (limit_at v w h.0 (width_within widths limit a w h.1), expression_fits widths limit a w h.1)
  expression_fits widths limit (binary o v a b) w h = (limit_at v w h.0 (width_within widths limit a w h.1), expression_fits widths limit a w h.1, expression_fits widths limit b w h.2)
  expression_fits widths limit (shifted d v a k) w h = (limit_at v w h.0 (width_within widths limit a w h.1), h.2, expression_fits widths limit a w h.1)
  expression_fits widths limit (choice f a b) w h = (formula_fits widths limit f h.0, expression_fits widths limit a w h.1, expression_fits widths limit b w h.2)

  formula_fits : (widths : List ℕ) → AreWithin widths → (f : Proposition) → IsTyped widths f → FormulaFits f (length widths)
  formula_fits widths limit (truth b) h = tt
  formula_fits widths limit (negation f) h = formula_fits widths limit f h
  formula_fits widths limit (connected c f g) h = (formula_fits widths limit f h.0, formula_fits widths limit g h.1)
  formula_fits widths limit (compared c a b) h = (expression_fits widths limit a h.0 h.1, expression_fits widths limit b h.0 h.2)

words_counted : (words : List Word) → length (widths_of words) ≡ length words
words_counted words = length-map words (λ w. w.width)

pub typed_expressions_fit : TypedExpressionsFit
typed_expressions_fit words limits e w h =
    let P : ℕ → Type 0 = λ n. ExpressionFits e n in
    subst P (words_counted words) (expression_fits (widths_of words) (are_within words limits) e w h)

pub typed_formulas_fit : TypedFormulasFit
typed_formulas_fit words limits f h =
    let P : ℕ → Type 0 = λ n. FormulaFits f n in
    subst P (words_counted words) (formula_fits (widths_of words) (are_within words limits) f h)

all_fit : (words : List Word) → IsLayout words → (fs : List Proposition) → AllTyped (widths_of words) fs → AllFit fs (length words)
all_fit words limits [] h = tt
all_fit words limits (f ∷ fs) h = (typed_formulas_fit words limits f h.0, all_fit words limits fs h.1)

assignments_fit : (words : List Word) → IsLayout words → (as_ : List Assignment) → AssignmentsTyped (widths_of words) as_ → AssignmentsFit as_ (length words)
assignments_fit words limits [] h = tt
assignments_fit words limits (a ∷ as_) h =
    (omega (arith, words_counted words, h.0), typed_expressions_fit words limits a.value _ h.1, assignments_fit words limits as_ h.2)

second_fits : (words : List Word) → IsLayout words → (second : SecondState) → SecondTyped (widths_of words) second → SecondFits second (length words)
second_fits words limits same h = tt
second_fits words limits free h = tt
second_fits words limits (after as_) h = assignments_fit words limits as_ h

pub typed_conditions_fit : TypedConditionsFit
typed_conditions_fit c limits h = record {
  hypotheses = all_fit c.words limits c.hypotheses h.hypotheses;
  second = second_fits c.words limits c.second h.second;
  goal = typed_formulas_fit c.words limits c.goal h.goal;
}
