-- That a tree fits and is typed in one way at most, as a fact that is kept with a value must.
use Rattle.std.specs.Prelude.{◌≡◌, ℕ, List, [], ◌∷◌, slice_index}
use Rattle.std.specs.Coded.{×_prop, Unit-prop, le_prop, Coded-set, coded_ℕ}
use Rattle.std.proofs.Common.{sym, ◌∙◌}
use Rattle.rg_tree.specs.Trees.{Expression, Proposition, Assignment, number, word, next_word, inverse, binary, shifted, choice, truth, negation, connected, compared}
use Rattle.rg_tree.specs.Fits.{ExpressionFits, FormulaFits}
use Rattle.rg_tree.specs.Typing.{HasWidth, IsTyped}
use Rattle.rg_tree.specs.ConditionTrees.{SecondState, same, free, after, ConditionTree, AllFit, AssignmentsFit, SecondFits, ConditionFits, AllTyped, AssignmentsTyped, SecondTyped, ConditionTyped}

mutual
  pub ExpressionFits-prop : (e : Expression) (n : ℕ) → IsProp (ExpressionFits e n)
  ExpressionFits-prop (number w k) n = Unit-prop
  ExpressionFits-prop (word k) n = le_prop
  ExpressionFits-prop (next_word k) n = le_prop
  ExpressionFits-prop (inverse w a) n = ×_prop le_prop (ExpressionFits-prop a n)
  ExpressionFits-prop (binary o w a b) n = hlevel (le_prop, ExpressionFits-prop a n, ExpressionFits-prop b n)
  ExpressionFits-prop (shifted d w a k) n = hlevel (le_prop, ExpressionFits-prop a n)
  ExpressionFits-prop (choice f a b) n = hlevel (FormulaFits-prop f n, ExpressionFits-prop a n, ExpressionFits-prop b n)

  pub FormulaFits-prop : (f : Proposition) (n : ℕ) → IsProp (FormulaFits f n)
  FormulaFits-prop (truth b) n = Unit-prop
  FormulaFits-prop (negation f) n = FormulaFits-prop f n
  FormulaFits-prop (connected c f g) n = ×_prop (FormulaFits-prop f n) (FormulaFits-prop g n)
  FormulaFits-prop (compared c a b) n = ×_prop (ExpressionFits-prop a n) (ExpressionFits-prop b n)

-- the width that an expression has, if it has one
width_of : List ℕ → Expression → ℕ
width_of widths (number v n) = v
width_of widths (word k) = slice_index widths k
width_of widths (next_word k) = slice_index widths k
width_of widths (inverse v a) = v
width_of widths (binary o v a b) = v
width_of widths (shifted d v a k) = v
width_of widths (choice f a b) = width_of widths a

width_is : (widths : List ℕ) (e : Expression) (w : ℕ) → HasWidth widths e w → width_of widths e ≡ w
unfolding width_of
width_is widths (number v n) w h = h.0
width_is widths (word k) w h = h.1
width_is widths (next_word k) w h = h.1
width_is widths (inverse v a) w h = h.0
width_is widths (binary o v a b) w h = h.0
width_is widths (shifted d v a k) w h = h.0
width_is widths (choice f a b) w h = width_is widths a w h.1

-- two facts of some number that the first of them determines
some_prop : (A B : ℕ → Type 0) → ((v w : ℕ) → A v → A w → v ≡ w) → ((w : ℕ) → IsProp (A w)) → ((w : ℕ) → IsProp (B w)) → IsProp ((w : ℕ) × A w × B w)
some_prop A B one a b x y = λ i.
    let w = one x.0 y.0 x.1 y.1 in
    (w i, a (w i) (coe 0 i (j. A (w j)) x.1) (coe 1 i (j. A (w j)) y.1) i, b (w i) (coe 0 i (j. B (w j)) x.2) (coe 1 i (j. B (w j)) y.2) i)

same_number : {a b : ℕ} → IsProp (a ≡ b)
same_number = Coded-set coded_ℕ _ _

mutual
  pub HasWidth-prop : (widths : List ℕ) (e : Expression) (w : ℕ) → IsProp (HasWidth widths e w)
  HasWidth-prop widths (number v n) w = hlevel (same_number, le_prop)
  HasWidth-prop widths (word k) w = hlevel (same_number, le_prop)
  HasWidth-prop widths (next_word k) w = hlevel (same_number, le_prop)
  HasWidth-prop widths (inverse v a) w = hlevel (same_number, HasWidth-prop widths a w)
  HasWidth-prop widths (binary o v a b) w = hlevel (same_number, HasWidth-prop widths a w, HasWidth-prop widths b w)
  HasWidth-prop widths (shifted d v a k) w = hlevel (same_number, le_prop, HasWidth-prop widths a w)
  HasWidth-prop widths (choice f a b) w = hlevel (IsTyped-prop widths f, HasWidth-prop widths a w, HasWidth-prop widths b w)

  pub IsTyped-prop : (widths : List ℕ) (f : Proposition) → IsProp (IsTyped widths f)
  IsTyped-prop widths (truth b) = Unit-prop
  IsTyped-prop widths (negation f) = IsTyped-prop widths f
  IsTyped-prop widths (connected c f g) = ×_prop (IsTyped-prop widths f) (IsTyped-prop widths g)
  IsTyped-prop widths (compared c a b) =
      some_prop (HasWidth widths a) (HasWidth widths b) (λ v w h k. sym (width_is widths a v h) ∙ width_is widths a w k) (HasWidth-prop widths a) (HasWidth-prop widths b)

AllFit-prop : (fs : List Proposition) (n : ℕ) → IsProp (AllFit fs n)
AllFit-prop [] n = Unit-prop
AllFit-prop (f ∷ fs) n = ×_prop (FormulaFits-prop f n) (AllFit-prop fs n)

AssignmentsFit-prop : (as_ : List Assignment) (n : ℕ) → IsProp (AssignmentsFit as_ n)
AssignmentsFit-prop [] n = Unit-prop
AssignmentsFit-prop (a ∷ as_) n = hlevel (le_prop, ExpressionFits-prop a.value n, AssignmentsFit-prop as_ n)

SecondFits-prop : (second : SecondState) (n : ℕ) → IsProp (SecondFits second n)
SecondFits-prop same n = Unit-prop
SecondFits-prop free n = Unit-prop
SecondFits-prop (after as_) n = AssignmentsFit-prop as_ n

pub ConditionFits-prop : (c : ConditionTree) → IsProp (ConditionFits c)
ConditionFits-prop c = hlevel (AllFit-prop, SecondFits-prop, FormulaFits-prop)

AllTyped-prop : (widths : List ℕ) (fs : List Proposition) → IsProp (AllTyped widths fs)
AllTyped-prop widths [] = Unit-prop
AllTyped-prop widths (f ∷ fs) = ×_prop (IsTyped-prop widths f) (AllTyped-prop widths fs)

pub AssignmentsTyped-prop : (widths : List ℕ) (as_ : List Assignment) → IsProp (AssignmentsTyped widths as_)
AssignmentsTyped-prop widths [] = Unit-prop
AssignmentsTyped-prop widths (a ∷ as_) = hlevel (le_prop, HasWidth-prop widths a.value (slice_index widths a.target), AssignmentsTyped-prop widths as_)

SecondTyped-prop : (widths : List ℕ) (second : SecondState) → IsProp (SecondTyped widths second)
SecondTyped-prop widths same = Unit-prop
SecondTyped-prop widths free = Unit-prop
SecondTyped-prop widths (after as_) = AssignmentsTyped-prop widths as_

pub ConditionTyped-prop : (c : ConditionTree) → IsProp (ConditionTyped c)
ConditionTyped-prop c = hlevel (AllTyped-prop, SecondTyped-prop, IsTyped-prop)
