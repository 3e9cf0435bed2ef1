-- what conditions mean
use Rattle.std.proofs.Common.{◌≡◌, ◌≢◌, ◌⊎◌, ℕ, suc, ◌<◌, Bool, true, false, not, ◌&&◌, ◌||◌, cond, nat_eq, List, [], ◌∷◌, length, get_or, set, map, refl, sym, ap, ◌∙◌, ⊎_elim, arith, subst, inl, inr}
use Rattle.std.proofs.Math.ListN.{length-set}
use Rattle.std.proofs.lemmas.Bool.{cases_lt}
use Rattle.std.proofs.lemmas.List.{get_or-set_same, get_or-set_other, get_or-map, ext_get_or, length-map, get_or_past}
use Rattle.std.specs.List.{zip}
use Rattle.rg_tree.specs.Typing.{HasWidth, IsTyped}
use Rattle.rg_gates.specs.declared.Lit.{Lit}
use Rattle.rg_gates.specs.declared.Lit.TheVariants.{True}
use Rattle.rg_gates.specs.Circuit.{negation, lit_value}
use Rattle.rg_gates.specs.And.{and_of}
use Rattle.rg_words.specs.declared.operators.Comparison.TheVariants.{Equal}
use Rattle.rg_tree.specs.Trees.{Proposition, Assignment}
use Rattle.rg_tree.specs.Meaning.{value_of, holds}
use Rattle.rg_tree.specs.ConditionTrees.{ConditionTree, SecondState, same, free, after, assigned, before, reached, all_hold, are_same, condition_holds, AllTyped, AssignmentsTyped, SecondTyped, ConditionTyped}
use Rattle.rg_words.specs.Layout.{widths_of}
use Rattle.rg_rows.specs.Build.{fold_of}
use Rattle.rg_rows.specs.Rows.{row_value}
use Rattle.rg_rows.specs.Literals.{or_of, implies_of}
use Rattle.rg_bits.specs.Formulas.{row_of, literal_of, compared_of}
use Rattle.rg_bits.proofs.StandFor.{StandFor}
use Rattle.rg_bits.specs.Conditions.{hypothesis_of, assign_of, reached_rows, same_word_of, goal_of, conclusion_of, implication_of}
use Rattle.rg_rows.proofs.Means.{Means, give-means, then-means, weaker-means}
use Rattle.rg_rows.proofs.LiteralsMean.{negation_value, and-means, or-means}
use Rattle.rg_bits.proofs.FormulasMean.{row-means, literal-means, compared-means}

pub hypothesis-means : (s t : List (List Lit)) (f : Proposition) (h : Lit) → Means (hypothesis_of s t f h) (λ v l. (widths first second : List ℕ) → StandFor v widths s first → StandFor v widths t second → IsTyped widths f → lit_value v l ≡ (lit_value v h && holds f first second))
unfolding hypothesis_of
hypothesis-means s t f h =
    then-means (literal_of f s t) _ _ _ (literal-means f s t) (λ l.
    weaker-means (and_of h l) _ _ (λ v out both is widths first second one two typed. both ∙ ap (λ b. lit_value v h && b) (is widths first second one two typed)) (and-means h l))

pub hypotheses-means : (s t : List (List Lit)) (fs : List Proposition) (h : Lit) → Means (fold_of (hypothesis_of s t) fs h) (λ v l. (widths first second : List ℕ) → StandFor v widths s first → StandFor v widths t second → AllTyped widths fs → lit_value v l ≡ all_hold fs first second (lit_value v h))
unfolding fold_of
hypotheses-means s t [] h = give-means h _ (λ v widths first second one two typed. refl)
hypotheses-means s t (f ∷ fs) h =
    then-means (hypothesis_of s t f h) _ _ _ (hypothesis-means s t f h) (λ g.
    weaker-means (fold_of (hypothesis_of s t) fs g) _ _ (λ v out ih is widths first second one two typed.
    ih widths first second one two typed.1 ∙ ap (all_hold fs first second) (is widths first second one two typed.0))
    (hypotheses-means s t fs g))

equal_or_not : (j k : ℕ) → (j ≡ k) ⊎ (j ≢ k)
equal_or_not j k = ⊎_elim (λ less. inr (λ e. omega arith)) (λ ge. ⊎_elim (λ more. inr (λ e. omega arith)) (λ le. inl (omega arith)) (cases_lt k j)) (cases_lt j k)

-- one word's row replaced
module _ (v : List Bool) (widths : List ℕ) (rows : List (List Lit)) (state : List ℕ) (k : ℕ) (row : List Lit) (n : ℕ) (small : k < length widths) (h : StandFor v widths rows state) (w : length row ≡ get_or widths k 0) (e : row_value v row ≡ n) where
  row_at : get_or (set rows k row) k [] ≡ row
  row_at = get_or-set_same rows k row [] (omega (arith, h.row_count))

  number_at : get_or (set state k n) k 0 ≡ n
  number_at = get_or-set_same state k n 0 (omega (arith, h.word_count))

  width_at : (j : ℕ) → j < length widths → (j ≡ k) ⊎ (j ≢ k) → length (get_or (set rows k row) j []) ≡ get_or widths j 0
  width_at j less (inl at) = let P : ℕ → Type 0 = λ i. length (get_or (set rows k row) i []) ≡ get_or widths i 0 in subst P (sym at) (ap length row_at ∙ w)
  width_at j less (inr apart) = ap length (get_or-set_other rows k j row [] apart) ∙ h.width j less

  value_at : (j : ℕ) → j < length widths → (j ≡ k) ⊎ (j ≢ k) → row_value v (get_or (set rows k row) j []) ≡ get_or (set state k n) j 0
  value_at j less (inl at) = let P : ℕ → Type 0 = λ i. row_value v (get_or (set rows k row) i []) ≡ get_or (set state k n) i 0 in subst P (sym at) (ap (row_value v) row_at ∙ e ∙ sym number_at)
  value_at j less (inr apart) = ap (row_value v) (get_or-set_other rows k j row [] apart) ∙ h.value j less ∙ sym (get_or-set_other state k j n 0 apart)

  pub stand_set : StandFor v widths (set rows k row) (set state k n)
  stand_set = record {
    row_count = length-set rows k row ∙ h.row_count;
    word_count = length-set state k n ∙ h.word_count;
    width = λ j less. width_at j less (equal_or_not j k);
    value = λ j less. value_at j less (equal_or_not j k);
  }

pub assign-means : (a : Assignment) (rows : List (List Lit)) → Means (assign_of a rows) (λ v out. (widths state : List ℕ) → StandFor v widths rows state → (a.target < length widths) × HasWidth widths a.value (get_or widths a.target 0) → StandFor v widths out (set state a.target (value_of a.value state state)))
unfolding assign_of
assign-means a rows =
    then-means (row_of a.value rows rows) _ _ _ (row-means a.value rows rows) (λ r.
    give-means (set rows a.target r) _ (λ v is widths state one typed.
    let n = is widths state state (get_or widths a.target 0) one one typed.1 in
    stand_set v widths rows state a.target r (value_of a.value state state) typed.0 one n.0 n.1))

pub assigned-means : (as_ : List Assignment) (rows : List (List Lit)) → Means (fold_of assign_of as_ rows) (λ v out. (widths state : List ℕ) → StandFor v widths rows state → AssignmentsTyped widths as_ → StandFor v widths out (assigned as_ state))
unfolding fold_of
assigned-means [] rows = give-means rows _ (λ v widths state one typed. one)
assigned-means (a ∷ as_) rows =
    then-means (assign_of a rows) _ _ _ (assign-means a rows) (λ next.
    weaker-means (fold_of assign_of as_ next) _ _ (λ v out ih is widths state one typed.
    ih widths (set state a.target (value_of a.value state state)) (is widths state one (typed.0, typed.1)) typed.2)
    (assigned-means as_ next))

-- the rows' numbers are the state
pub numbers_are : (v : List Bool) (widths : List ℕ) (rows : List (List Lit)) (state : List ℕ) → StandFor v widths rows state → map (row_value v) rows ≡ state
numbers_are v widths rows state h =
    ext_get_or 0 (map (row_value v) rows) state (length-map rows (row_value v) ∙ h.row_count ∙ sym h.word_count)
    (λ i less. let small : i < length rows = omega (arith, length-map rows (row_value v)) in get_or-map (row_value v) rows i [] 0 small ∙ h.value i (omega (arith, h.row_count)))

abbrev pub SameWidths : List (List Lit) → List (List Lit) → Type 0
SameWidths as_ bs = (k : ℕ) → length (get_or as_ k []) ≡ length (get_or bs k [])

pub same_word-means : (words : List Lit × List Lit) (so_far : Lit) → Means (same_word_of words so_far) (λ v l. length words.0 ≡ length words.1 → lit_value v l ≡ (lit_value v so_far && nat_eq (row_value v words.0) (row_value v words.1)))
unfolding same_word_of
same_word-means words so_far =
    then-means (compared_of Equal words.0 words.1) _ _ _ (compared-means Equal words.0 words.1) (λ e.
    weaker-means (and_of so_far e) _ _ (λ v l both is same_width. both ∙ ap (λ x. lit_value v so_far && x) (is same_width)) (and-means so_far e))

pub unchanged-means : (as_ bs : List (List Lit)) (so_far : Lit) → Means (fold_of same_word_of (zip as_ bs) so_far) (λ v l. SameWidths as_ bs → lit_value v l ≡ are_same (map (row_value v) as_) (map (row_value v) bs) (lit_value v so_far))
unfolding fold_of
unchanged-means [] bs so_far = give-means so_far _ (λ v h. refl)
unchanged-means (a ∷ as_) [] so_far = give-means so_far _ (λ v h. refl)
unchanged-means (a ∷ as_) (b ∷ bs) so_far =
    then-means (same_word_of (a, b) so_far) _ _ _ (same_word-means (a, b) so_far) (λ g.
    weaker-means (fold_of same_word_of (zip as_ bs) g) _ _ (λ v l ih is same_width.
    ih (λ k. same_width (suc k)) ∙ ap (are_same (map (row_value v) as_) (map (row_value v) bs)) (is (same_width 0)))
    (unchanged-means as_ bs g))

pub same_widths : (v : List Bool) (widths : List ℕ) (as_ bs : List (List Lit)) (s t : List ℕ) → StandFor v widths as_ s → StandFor v widths bs t → SameWidths as_ bs
same_widths v widths as_ bs s t h w k =
    ⊎_elim (λ less. h.width k less ∙ sym (w.width k less))
    (λ past. ap length (get_or_past as_ k [] (omega (arith, h.row_count))) ∙ sym (ap length (get_or_past bs k [] (omega (arith, w.row_count))))) (cases_lt k (length widths))

pub goal-means : (no_change : Bool) (g : Lit) (u s : List (List Lit)) → Means (goal_of no_change g u s) (λ v l. (widths after_ before_ : List ℕ) → StandFor v widths u after_ → StandFor v widths s before_ → lit_value v l ≡ cond no_change (lit_value v g || are_same after_ before_ true) (lit_value v g))
unfolding goal_of
goal-means false g u s = give-means g _ (λ v widths after_ before_ one two. refl)
goal-means true g u s =
    then-means (fold_of same_word_of (zip u s) True) _ _ _ (unchanged-means u s True) (λ unchanged.
    weaker-means (or_of g unchanged) _ _ (λ v l is same_ widths after_ before_ one two.
    is ∙ ap (λ x. lit_value v g || x) (same_ (same_widths v widths u s after_ before_ one two)
    ∙ ap (λ xs. are_same xs (map (row_value v) s) true) (numbers_are v widths u after_ one) ∙ ap (λ ys. are_same after_ ys true) (numbers_are v widths s before_ two)))
    (or-means g unchanged))

pub reached-means : (second : SecondState) (t : List (List Lit)) → Means (reached_rows second t) (λ v out. (widths x y : List ℕ) → StandFor v widths t (before second x y) → SecondTyped widths second → StandFor v widths out (reached second x y))
unfolding reached_rows
reached-means same t = give-means t _ (λ v widths x y two typed. two)
reached-means free t = give-means t _ (λ v widths x y two typed. two)
reached-means (after as_) t = weaker-means (fold_of assign_of as_ t) _ _ (λ v out is widths x y two typed. is widths x two typed) (assigned-means as_ t)

cond_stand : (v : List Bool) (widths : List ℕ) (b : Bool) (u s : List (List Lit)) (y x : List ℕ) → StandFor v widths u y → StandFor v widths s x → StandFor v widths (cond b u s) (cond b y x)
cond_stand v widths true u s y x one two = one
cond_stand v widths false u s y x one two = two

-- wherever the rows stand for the states, the literal is true exactly where the condition holds
pub implication-means : (c : ConditionTree) (s t : List (List Lit)) → Means (implication_of c s t) (λ v l. (x y : List ℕ) → StandFor v (widths_of c.words) s x → StandFor v (widths_of c.words) t (before c.second x y) → ConditionTyped c → lit_value v l ≡ condition_holds c x y)
unfolding implication_of conclusion_of implies_of
implication-means c s t =
    then-means (fold_of (hypothesis_of s t) c.hypotheses True) _ _ _ (hypotheses-means s t c.hypotheses True) (λ h.
    then-means (reached_rows c.second t) _ _ _ (reached-means c.second t) (λ u.
    then-means (literal_of c.goal (cond c.alone u s) u) _ _ _ (literal-means c.goal (cond c.alone u s) u) (λ g.
    then-means (goal_of c.or_no_change g u s) _ _ _ (goal-means c.or_no_change g u s) (λ q.
    then-means (and_of h (negation q)) _ _ _ (and-means h (negation q)) (λ a.
    give-means (negation a) _ (λ v a_is q_is g_is u_is h_is x y one two typed.
    let widths = widths_of c.words in
    let end = reached c.second x y in
    let us = u_is widths x y two typed.second in
    let goal = g_is widths (cond c.alone end x) end (cond_stand v widths c.alone u s end x us one) us typed.goal in
    let whole = q_is widths end x us one ∙ ap (λ b. cond c.or_no_change (b || are_same end x true) b) goal in
    negation_value v a ∙ ap not (a_is
    ∙ ap (λ b. b && lit_value v (negation q)) (h_is widths x (before c.second x y) one two typed.hypotheses)
    ∙ ap (λ b. all_hold c.hypotheses x (before c.second x y) true && b) (negation_value v q ∙ ap not whole))))))))
