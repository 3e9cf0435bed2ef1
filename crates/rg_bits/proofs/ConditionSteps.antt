-- the lemmas by which the calls of conditions compose
use Rattle.std.proofs.Common.{◌≡◌, ℕ, zero, suc, ◌+◌, ◌<◌, ◌≤◌, min, Bool, cond, List, [], ◌∷◌, length, get_or, drop, set, refl, sym, ap, ◌∙◌, arith, subst, add-one}
use Rattle.std.specs.Prelude.{Vec}
use Rattle.std.specs.Global.{Global}
use Rattle.std.specs.List.{zip}
use Rattle.std.proofs.lemmas.List.{length-map}
use Rattle.rg_gates.specs.declared.Lit.{Lit}
use Rattle.rg_gates.specs.Circuit.{Circuit, variable_count}
use Rattle.rg_tree.specs.Trees.{Proposition, Assignment}
use Rattle.rg_tree.specs.Fits.{FormulaFits, ExpressionFits}
use Rattle.rg_tree.specs.ConditionTrees.{ConditionTree, SecondState, AllFit, AssignmentsFit}
use Rattle.rg_rows.specs.Build.{◌>>=◌, fold_of}
use Rattle.rg_rows.specs.Within.{AreRowsIn, rows_of, IsRowIn}
use Rattle.rg_bits.specs.Conditions.{hypothesis_of, assign_of, same_word_of, goal_of, conclusion_of, reached_rows}
use Rattle.rg_rows.proofs.Means.{grows-means}
use Rattle.rg_rows.proofs.LiteralsMean.{and-grows, or-grows, implies-grows}
use Rattle.rg_rows.specs.Literals.{implies_of}
use Rattle.rg_bits.specs.Formulas.{literal_of}
use Rattle.rg_bits.proofs.FormulaSteps.{literal-grows}
use Rattle.rg_bits.proofs.TreeSteps.{tree_steps}
use Rattle.rg_rows.proofs.RowsOf.{row_at, length-rows_of}
use Rattle.rg_bits.proofs.ConditionsMean.{hypothesis-means, assign-means, same_word-means, hypotheses-means, reached-means, goal-means}

pub hypothesis-grows : (s t : List (List Lit)) (f : Proposition) (h : Lit) (c : Circuit) → variable_count c ≤ variable_count (hypothesis_of s t f h c).1
hypothesis-grows s t f h c = grows-means (hypothesis_of s t f h) _ (hypothesis-means s t f h) c

pub assign-grows : (a : Assignment) (rows : List (List Lit)) (c : Circuit) → variable_count c ≤ variable_count (assign_of a rows c).1
assign-grows a rows c = grows-means (assign_of a rows) _ (assign-means a rows) c

pub same_word-grows : (w : List Lit × List Lit) (so_far : Lit) (c : Circuit) → variable_count c ≤ variable_count (same_word_of w so_far c).1
same_word-grows w so_far c = grows-means (same_word_of w so_far) _ (same_word-means w so_far) c

-- the formula at i fits
pub formula_fits : (fs : List Proposition) (n i : ℕ) (f : Proposition) (rest : List Proposition) → AllFit fs n → drop i fs ≡ f ∷ rest → FormulaFits f n
formula_fits [] n zero f rest h e = (cc)
formula_fits [] n (suc i) f rest h e = (cc)
formula_fits (g ∷ fs) n zero f rest h e = let same : g ≡ f = (cc) in let P : Proposition → Type 0 = λ x. FormulaFits x n in subst P same h.0
formula_fits (g ∷ fs) n (suc i) f rest h e = formula_fits fs n i f rest h.1 e

drop_zipped : (as_ bs : List (List Lit)) (i : ℕ) (a b : List Lit) → i < length as_ → i < length bs → get_or as_ i [] ≡ a → get_or bs i [] ≡ b → drop i (zip as_ bs) ≡ (a, b) ∷ drop (i + 1) (zip as_ bs)
drop_zipped [] bs i a b less more at be = absurd (omega arith)
drop_zipped (x ∷ as_) [] i a b less more at be = absurd (omega arith)
drop_zipped (x ∷ as_) (y ∷ bs) zero a b less more at be = ap (λ z. (z, y) ∷ zip as_ bs) at ∙ ap (λ z. (a, z) ∷ zip as_ bs) be
drop_zipped (x ∷ as_) (y ∷ bs) (suc i) a b less more at be = drop_zipped as_ bs i a b (omega arith) (omega arith) at be ∙ ap (λ j. (a, b) ∷ drop j (zip as_ bs)) (add-one i) ∙ ap (λ j. (a, b) ∷ drop j (zip (x ∷ as_) (y ∷ bs))) (sym (add-one (suc i)))

drop_zip-end : (as_ bs : List (List Lit)) (i : ℕ) → min (length as_) (length bs) ≤ i → drop i (zip as_ bs) ≡ []
drop_zip-end [] bs zero h = refl
drop_zip-end [] bs (suc i) h = refl
drop_zip-end (x ∷ as_) [] zero h = refl
drop_zip-end (x ∷ as_) [] (suc i) h = refl
drop_zip-end (x ∷ as_) (y ∷ bs) zero h = absurd (omega arith)
drop_zip-end (x ∷ as_) (y ∷ bs) (suc i) h = drop_zip-end as_ bs i (omega arith)

-- two words' rows as they are read
pub zipped_at : (xs ys : List (Vec Lit Global)) (i : ℕ) (x y : Vec Lit Global) (a b : List Lit) → i < min (length xs) (length ys) → x ≡ get_or xs i x → y ≡ get_or ys i y → a ≡ x.items → b ≡ y.items → drop i (zip (rows_of xs) (rows_of ys)) ≡ (a, b) ∷ drop (i + 1) (zip (rows_of xs) (rows_of ys))
zipped_at xs ys i x y a b less at be e f = drop_zipped (rows_of xs) (rows_of ys) i a b (omega (arith, length-rows_of xs)) (omega (arith, length-rows_of ys)) (row_at xs i x a (omega arith) at e) (row_at ys i y b (omega arith) be f)

pub zipped_end : (xs ys : List (Vec Lit Global)) (i : ℕ) → min (length xs) (length ys) ≤ i → drop i (zip (rows_of xs) (rows_of ys)) ≡ []
zipped_end xs ys i h = drop_zip-end (rows_of xs) (rows_of ys) i (omega (arith, length-rows_of xs, length-rows_of ys))

-- one row replaced
pub rows_of-set : (xs : List (Vec Lit Global)) (k : ℕ) (x : Vec Lit Global) → rows_of (set xs k x) ≡ set (rows_of xs) k x.items
unfolding rows_of
rows_of-set [] k x = refl
rows_of-set (y ∷ ys) zero x = refl
rows_of-set (y ∷ ys) (suc k) x = ap (λ rows. y.items ∷ rows) (rows_of-set ys k x)

pub AreRowsIn-set : {c : Circuit} {rows : List (List Lit)} (k : ℕ) {row : List Lit} → AreRowsIn c rows → IsRowIn c row → AreRowsIn c (set rows k row)
AreRowsIn-set {c} {rows} k {row} h r = record { word = word_set rows k (λ j. h.word j) } where
  word_set : (rows : List (List Lit)) (k : ℕ) → ((j : ℕ) → IsRowIn c (get_or rows j [])) → (j : ℕ) → IsRowIn c (get_or (set rows k row) j [])
  word_set [] k h j = h j
  word_set (x ∷ xs) zero h zero = r
  word_set (x ∷ xs) zero h (suc j) = h (suc j)
  word_set (x ∷ xs) (suc k) h zero = h 0
  word_set (x ∷ xs) (suc k) h (suc j) = word_set xs k (λ i. h (suc i)) j

pub set_in : (c : Circuit) (xs : List (Vec Lit Global)) (k : ℕ) (x : Vec Lit Global) → AreRowsIn c (rows_of xs) → IsRowIn c x.items → AreRowsIn c (rows_of (set xs k x))
set_in c xs k x h r = let P : List (List Lit) → Type 0 = λ rows. AreRowsIn c rows in subst P (sym (rows_of-set xs k x)) (AreRowsIn-set k h r)

-- the assignment at i fits
pub assignment_fits : (as_ : List Assignment) (n i : ℕ) (a : Assignment) (rest : List Assignment) → AssignmentsFit as_ n → drop i as_ ≡ a ∷ rest → (a.target < n) × ExpressionFits a.value n
assignment_fits [] n zero a rest h e = (cc)
assignment_fits [] n (suc i) a rest h e = (cc)
assignment_fits (b ∷ as_) n zero a rest h e = let same : b ≡ a = (cc) in let P : Assignment → Type 0 = λ x. (x.target < n) × ExpressionFits x.value n in subst P same (h.0, h.1)
assignment_fits (b ∷ as_) n (suc i) a rest h e = assignment_fits as_ n i a rest h.2 e

pub hypotheses-grows : (s t : List (List Lit)) (fs : List Proposition) (h : Lit) (c : Circuit) → variable_count c ≤ variable_count (fold_of (hypothesis_of s t) fs h c).1
hypotheses-grows s t fs h c = grows-means (fold_of (hypothesis_of s t) fs h) _ (hypotheses-means s t fs h) c

pub reached-grows : (k : SecondState) (t : List (List Lit)) (c : Circuit) → variable_count c ≤ variable_count (reached_rows k t c).1
reached-grows k t c = grows-means (reached_rows k t) _ (reached-means k t) c

pub goal-grows : (b : Bool) (g : Lit) (u s : List (List Lit)) (c : Circuit) → variable_count c ≤ variable_count (goal_of b g u s c).1
goal-grows b g u s c = grows-means (goal_of b g u s) _ (goal-means b g u s) c

-- what is built after the first parts only grows
pub implied-grows : (b : Bool) (u s : List (List Lit)) (h g : Lit) (c : Circuit) → variable_count c ≤ variable_count ((goal_of b g u s >>= λ q. implies_of h q) c).1
implied-grows b u s h g c = let q = goal_of b g u s c in omega (arith, goal-grows b g u s c, implies-grows h q.0 q.1)

pub conclusion-grows : (k : ConditionTree) (s u : List (List Lit)) (h : Lit) (c : Circuit) → variable_count c ≤ variable_count (conclusion_of k s u h c).1
unfolding conclusion_of
conclusion-grows k s u h c =
    let g = literal_of k.goal (cond k.alone u s) u c in
    omega (arith, literal-grows k.goal (cond k.alone u s) u c, implied-grows k.or_no_change u s h g.0 g.1)

pub concluded-grows : (k : ConditionTree) (s t : List (List Lit)) (h : Lit) (c : Circuit) → variable_count c ≤ variable_count ((reached_rows k.second t >>= λ u. conclusion_of k s u h) c).1
concluded-grows k s t h c = let u = reached_rows k.second t c in omega (arith, reached-grows k.second t c, conclusion-grows k s u.0 h u.1)

pub ruleset condition_steps = (tree_steps, and-grows, or-grows, hypothesis-grows, assign-grows, same_word-grows, hypotheses-grows, reached-grows, goal-grows)
