-- The assignments that change something fit where all do, and so do their changes.
use Rattle.std.proofs.Common.{ℕ, Bool, true, false, not, cond, List, [], ◌∷◌, Some, None}
use Rattle.rg_tree.specs.Trees.{Expression, Assignment, number, word, next_word, inverse, binary, shifted, choice}
use Rattle.rg_tree.specs.Fits.{ExpressionFits}
use Rattle.rg_c_plan.specs.Changes.{ChangeTree, is_word, moving, change_by, change_of}
use Rattle.rg_c.specs.Fitting.{AssignmentsFit, GuardFits}

pub moving_fits : (n : ℕ) (act : List Assignment) → AssignmentsFit n act → AssignmentsFit n (moving act)
moving_fits n [] h = tt
moving_fits n (a ∷ act) h = by (is_word a.target a.value) (moving_fits n act h.1)
  where
    by : (b : Bool) → AssignmentsFit n (moving act) → AssignmentsFit n (cond (not b) (a ∷ moving act) (moving act))
    by true rest = rest
    by false rest = (h.0, rest)

-- the test and the value of a change fit
abbrev pub ChangeFits : ℕ → ChangeTree → Type 0
ChangeFits n c = GuardFits n c.test × ExpressionFits c.value n

fits_by : (n k : ℕ) (e : Expression) → ExpressionFits e n → ChangeFits n (change_by k e)
fits_by n k (number w m) h = (tt, h)
fits_by n k (word j) h = (tt, h)
fits_by n k (next_word j) h = (tt, h)
fits_by n k (inverse w a) h = (tt, h)
fits_by n k (binary o w a b) h = (tt, h)
fits_by n k (shifted d w a m) h = (tt, h)
fits_by n k (choice f a b) h = by (is_word k b)
  where
    by : (t : Bool) → ChangeFits n (cond t (record { test = Some f; value = a }) (record { test = None; value = choice f a b }))
    by true = (h.0, h.1)
    by false = (tt, h)

pub change_fits : (n : ℕ) (a : Assignment) → ExpressionFits a.value n → GuardFits n (change_of a).test × ExpressionFits (change_of a).value n
change_fits n a h = fits_by n a.target a.value h
