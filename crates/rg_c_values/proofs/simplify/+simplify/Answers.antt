use Rattle.std.proofs.Common.{◌≡◌, ◌≤◌, ◌||◌, ℕ, true, false, Result, Ok, Err, IfOk, length, sym, subst}
use Rattle.std.proofs.lemmas.Bool.{cond_both}
use Rattle.rg_words.specs.declared.operators.Operator.{Operator}
use Rattle.rg_tree.specs.Trees.{Expression, Proposition, truth, number, binary}
use Rattle.rg_tree.specs.Fits.{ExpressionFits, FormulaFits}
use Rattle.rg_tree.specs.View.{expression, formula}
use Rattle.rg_tree.specs.declared.tree.Expr.{Expr}
use Rattle.rg_c_values.specs.Simplified.{erases, simple_binary, simple_choice}
use Rattle.rg_c_values.proofs.simplify.+simplify.Goals as goal

choice_fits : (f : Proposition) (a b : Expression) (n : ℕ) → FormulaFits f n → ExpressionFits a n → ExpressionFits b n → ExpressionFits (simple_choice f a b) n
choice_fits (truth true) a b n h k l = k
choice_fits (truth false) a b n h k l = l
choice_fits f a b n h k l = (h, k, l)

binary_fits : (o : Operator) (w : ℕ) (a b : Expression) (n : ℕ) → w ≤ 64 → ExpressionFits a n → ExpressionFits b n → ExpressionFits (simple_binary o w a b) n
binary_fits o w (number u i) (number v j) n h k l = tt
binary_fits o w a b n h k l =
    cond_both (erases o a || erases o b) (number w 0) (binary o w a b) (λ x. ExpressionFits x n) (λ _. tt) (λ _. (h, k, l))

-- what is equal to a tree that fits, fits
same_fits : {E : Type 0} (r : Result Expr E) (e : Expression) (n : ℕ) → IfOk r (λ c. expression c ≡ e) → ExpressionFits e n → IfOk r (λ c. ExpressionFits (expression c) n)
same_fits (Ok x) e n h fits = let P : Expression → Type 0 = λ t. ExpressionFits t n in subst P (sym h) fits
same_fits (Err x) e n h fits = tt

pub simplified-returns-in_ok-b-in-If-clause-fits : goal.simplified-returns-in_ok-b-in-If-clause-fits
simplified-returns-in_ok-b-in-If-clause-fits t c =
    let n = length c.args.layout.now in
    let f = formula c.in_ok-f-in-If.f in
    let a = expression c.in_ok-a-in-If.a in
    let b = expression c.in_ok-b-in-If.b in
    same_fits c.simple_choice.result (simple_choice f a b) n c.simple_choice.ensures
    (choice_fits f a b n c.in_ok-f-in-If.ensures.fits c.in_ok-a-in-If.ensures.fits c.in_ok-b-in-If.ensures.fits)

pub simplified-returns-in_ok-b-in-Binary-clause-fits : goal.simplified-returns-in_ok-b-in-Binary-clause-fits
simplified-returns-in_ok-b-in-Binary-clause-fits t c =
    let n = length c.args.layout.now in
    let o = c.in-Binary.operator in
    let w = c.in-Binary.width in
    let a = expression c.in_ok-a-in-Binary.a in
    let b = expression c.in_ok-b-in-Binary.b in
    let fits = rw c.in-Binary.is at c.requires in
    same_fits c.simple_binary.result (simple_binary o w a b) n c.simple_binary.ensures
    (binary_fits o w a b n fits.0 c.in_ok-a-in-Binary.ensures.fits c.in_ok-b-in-Binary.ensures.fits)
