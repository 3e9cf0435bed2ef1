-- What typing gives: values below 2 to the power of the width, and trees that fit.
use Rattle.std.specs.Prelude.{ℕ, ◌<◌, ◌^◌, List, length}
use Rattle.rg_words.specs.Layout.{Word, widths_of, IsLayout}
use Rattle.rg_words.specs.States.{AreValues}
use Rattle.rg_tree.specs.Trees.{Expression, Proposition}
use Rattle.rg_tree.specs.Meaning.{value_of}
use Rattle.rg_tree.specs.Fits.{ExpressionFits, FormulaFits}
use Rattle.rg_tree.specs.Typing.{HasWidth, IsTyped}
use Rattle.rg_tree.specs.ConditionTrees.{ConditionTree, ConditionFits, ConditionTyped}

-- an expression of width w has a value below 2 ^ w in every two states
abbrev pub ValuesStayWithinWidth : Type 0
ValuesStayWithinWidth = (widths s t : List ℕ) (e : Expression) (w : ℕ) → HasWidth widths e w → AreValues widths s → AreValues widths t → value_of e s t < 2 ^ w

-- over words within the limits, typed trees fit
abbrev pub TypedExpressionsFit : Type 0
TypedExpressionsFit = (words : List Word) → IsLayout words → (e : Expression) (w : ℕ) → HasWidth (widths_of words) e w → ExpressionFits e (length words)

-- over words within the limits a typed formula fits
abbrev pub TypedFormulasFit : Type 0
TypedFormulasFit = (words : List Word) → IsLayout words → (f : Proposition) → IsTyped (widths_of words) f → FormulaFits f (length words)

-- over words within the limits a typed condition fits
abbrev pub TypedConditionsFit : Type 0
TypedConditionsFit = (c : ConditionTree) → IsLayout c.words → ConditionTyped c → ConditionFits c
