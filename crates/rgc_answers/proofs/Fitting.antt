-- The formula of a condition speaks of the condition's words.
use Rattle.std.proofs.Common.{◌≡◌, ◌<◌, ◌≤◌, ℕ, zero, suc, Bool, true, false, cond, List, [], ◌∷◌, ◌++◌, length, map, get_or, slice_set, arith}
use Rattle.rg_tree.specs.declared.tree.Formula.{Formula}
use Rattle.rg_tree.specs.Trees.{Expression, Proposition, Assignment, number, word, next_word, inverse, binary, shifted, choice, truth, negation, connected, compared}
use Rattle.rg_tree.specs.Fits.{ExpressionFits, FormulaFits}
use Rattle.rg_tree.specs.ConditionTrees.{SecondState, same, free, after, AllFit, AssignmentsFit, SecondFits, ConditionTree, ConditionFits}
use Rattle.rg_tree.specs.View.{formula}
use Rattle.rgc_answers.specs.Replaced.{expression_over, formula_over}
use Rattle.rgc_answers.specs.Rows.{plain_row, primed_row, assigned_row, moved_row, before_row, second_row}
use Rattle.rgc_answers.specs.Equations.{equation, equations, conjunction, implied}
use Rattle.rgc_answers.specs.Formulas.{step_of, given_of, goal_of, formula_of}

-- each expression of a row speaks of n words
abbrev RowFits : List Expression → ℕ → Type 0
RowFits [] n = Unit {0}
RowFits (e ∷ es) n = ExpressionFits e n × RowFits es n

read_fits : (row : List Expression) (n k : ℕ) (e : Expression) → RowFits row n → ExpressionFits e n → ExpressionFits (get_or row k e) n
read_fits [] n k e h he = he
read_fits (x ∷ row) n zero e h he = h.0
read_fits (x ∷ row) n (suc k) e h he = read_fits row n k e h.1 he

more_fits : (row : List Expression) (n : ℕ) (e : Expression) → RowFits row n → ExpressionFits e n → RowFits (row ++ e ∷ []) n
more_fits [] n e h he = (he, tt)
more_fits (x ∷ row) n e h he = (h.0, more_fits row n e h.1 he)

set_fits : (row : List Expression) (n k : ℕ) (e : Expression) → RowFits row n → ExpressionFits e n → RowFits (slice_set row k e) n
set_fits [] n k e h he = tt
set_fits (x ∷ row) n zero e h he = (he, h.1)
set_fits (x ∷ row) n (suc k) e h he = (h.0, set_fits row n k e h.1 he)

plain_fits : (m n : ℕ) → m ≤ n → RowFits (plain_row m) n
plain_fits zero n le = tt
plain_fits (suc m) n le = more_fits (plain_row m) n (word m) (plain_fits m n (omega (arith, le))) (omega (arith, le))

primed_fits : (m n : ℕ) → m ≤ n → RowFits (primed_row m) n
primed_fits zero n le = tt
primed_fits (suc m) n le = more_fits (primed_row m) n (next_word m) (primed_fits m n (omega (arith, le))) (omega (arith, le))

module _ (n : ℕ) (plain primed : List Expression) (h : RowFits plain n) (j : RowFits primed n) where
  mutual
    expression_over_fits : (e : Expression) → ExpressionFits e n → ExpressionFits (expression_over plain primed e) n
    expression_over_fits (number w m) f = tt
    expression_over_fits (word k) f = read_fits plain n k (word k) h f
    expression_over_fits (next_word k) f = read_fits primed n k (next_word k) j f
    expression_over_fits (inverse w a) f = (f.0, expression_over_fits a f.1)
    expression_over_fits (binary o w a b) f = (f.0, expression_over_fits a f.1, expression_over_fits b f.2)
    expression_over_fits (shifted d w a k) f = (f.0, f.1, expression_over_fits a f.2)
    expression_over_fits (choice p a b) f = (formula_over_fits p f.0, expression_over_fits a f.1, expression_over_fits b f.2)

    formula_over_fits : (p : Proposition) → FormulaFits p n → FormulaFits (formula_over plain primed p) n
    formula_over_fits (truth b) f = tt
    formula_over_fits (negation p) f = formula_over_fits p f
    formula_over_fits (connected c p q) f = (formula_over_fits p f.0, formula_over_fits q f.1)
    formula_over_fits (compared c a b) f = (expression_over_fits a f.0, expression_over_fits b f.1)

  all_over_fit : (fs : List Proposition) → AllFit fs n → AllFit (map (formula_over plain primed) fs) n
  all_over_fit [] f = tt
  all_over_fit (p ∷ fs) f = (formula_over_fits p f.0, all_over_fit fs f.1)

assigned_fits : (act : List Assignment) (row : List Expression) (n : ℕ) → AssignmentsFit act n → RowFits row n → RowFits (assigned_row act row) n
assigned_fits [] row n f h = h
assigned_fits (a ∷ act) row n f h = assigned_fits act _ n f.2 (set_fits row n a.target _ h (expression_over_fits n row row h h a.value f.1))

moved_fits : (act : List Assignment) (row : List Expression) (n : ℕ) → AssignmentsFit act n → RowFits row n → RowFits (moved_row act row) n
moved_fits [] row n f h = h
moved_fits (a ∷ act) row n f h = moved_fits act _ n f.2 (set_fits row n a.target (next_word a.target) h f.0)

both_fit : (fs gs : List Proposition) (n : ℕ) → AllFit fs n → AllFit gs n → AllFit (fs ++ gs) n
both_fit [] gs n f g = g
both_fit (p ∷ fs) gs n f g = (f.0, both_fit fs gs n f.1 g)

equation_fits : (a b : Expression) (n : ℕ) → ExpressionFits a n → ExpressionFits b n → AllFit (equation a b) n
equation_fits (number w m) b n f g = tt
equation_fits (word k) b n f g = tt
equation_fits (next_word k) b n f g = ((f, g), tt)
equation_fits (inverse w a) b n f g = tt
equation_fits (binary o w a c) b n f g = tt
equation_fits (shifted d w a k) b n f g = tt
equation_fits (choice p a c) b n f g = tt

equations_fit : (as_ bs : List Expression) (n : ℕ) → RowFits as_ n → RowFits bs n → AllFit (equations as_ bs) n
equations_fit (a ∷ as_) (b ∷ bs) n f g = both_fit (equation a b) (equations as_ bs) n (equation_fits a b n f.0 g.0) (equations_fit as_ bs n f.1 g.1)
equations_fit [] bs n f g = tt
equations_fit (a ∷ as_) [] n f g = tt

conjunction_fits : (fs : List Proposition) (n : ℕ) → AllFit fs n → FormulaFits (conjunction fs) n
conjunction_fits [] n f = tt
conjunction_fits (p ∷ []) n f = f.0
conjunction_fits (p ∷ q ∷ fs) n f = (f.0, conjunction_fits (q ∷ fs) n f.1)

implied_fits : (fs : List Proposition) (goal : Proposition) (n : ℕ) → AllFit fs n → FormulaFits goal n → FormulaFits (implied fs goal) n
implied_fits [] goal n f g = g
implied_fits (p ∷ fs) goal n f g = (conjunction_fits (p ∷ fs) n f, g)

before_fits : (second : SecondState) (n : ℕ) → RowFits (before_row second n) n
before_fits same n = plain_fits n n (omega arith)
before_fits free n = primed_fits n n (omega arith)
before_fits (after act) n = plain_fits n n (omega arith)

second_fits : (second : SecondState) (n : ℕ) → SecondFits second n → RowFits (second_row second n) n
second_fits same n f = plain_fits n n (omega arith)
second_fits free n f = primed_fits n n (omega arith)
second_fits (after act) n f = moved_fits act (plain_row n) n f (plain_fits n n (omega arith))

step_fits : (second : SecondState) (n : ℕ) → SecondFits second n → AllFit (step_of second n) n
step_fits same n f = tt
step_fits free n f = tt
step_fits (after act) n f =
    let plain = plain_fits n n (omega arith) in
    equations_fit (moved_row act (plain_row n)) (assigned_row act (plain_row n)) n (moved_fits act (plain_row n) n f plain) (assigned_fits act (plain_row n) n f plain)

chosen_fits : (b : Bool) (xs ys : List Expression) (n : ℕ) → RowFits xs n → RowFits ys n → RowFits (cond b xs ys) n
chosen_fits true xs ys n f g = f
chosen_fits false xs ys n f g = g

either_fits : (b : Bool) (f g : Proposition) (n : ℕ) → FormulaFits f n → FormulaFits g n → FormulaFits (cond b f g) n
either_fits true f g n h j = h
either_fits false f g n h j = j

pub formula_fits : (c : ConditionTree) → ConditionFits c → FormulaFits (formula_of c) (length c.words)
formula_fits c f =
    let n = length c.words in
    let plain = plain_fits n n (omega arith) in
    let second = second_fits c.second n f.second in
    let first = chosen_fits c.alone (second_row c.second n) (plain_row n) n second plain in
    let goal = formula_over_fits n (cond c.alone (second_row c.second n) (plain_row n)) (second_row c.second n) first second c.goal f.goal in
    let unchanged = conjunction_fits (equations (second_row c.second n) (plain_row n)) n (equations_fit (second_row c.second n) (plain_row n) n second plain) in
    let hypotheses = all_over_fit n (plain_row n) (before_row c.second n) plain (before_fits c.second n) c.hypotheses f.hypotheses in
    implied_fits (given_of c) (goal_of c) n (both_fit _ (step_of c.second n) n hypotheses (step_fits c.second n f.second)) (either_fits c.or_no_change _ _ n (goal, unchanged) goal)

-- the formula at a place
pub all_fit_at : (fs : List Formula) (n i : ℕ) (f : Formula) → AllFit (map formula fs) n → i < length fs → f ≡ get_or fs i f → FormulaFits (formula f) n
all_fit_at [] n i f h less is = absurd (omega (arith, less))
all_fit_at (g ∷ fs) n zero f h less is = let e : f ≡ g = is in rw e (h.0)
all_fit_at (g ∷ fs) n (suc i) f h less is = all_fit_at fs n i f h.1 (omega (arith, less)) is
