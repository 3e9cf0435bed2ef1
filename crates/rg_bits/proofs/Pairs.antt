-- the states whose bits the inputs are
use Rattle.std.proofs.Common.{◌≡◌, ℕ, zero, suc, ◌+◌, ◌/◌, ◌%◌, ◌^◌, ◌<◌, Bool, true, false, not, ◌&&◌, ◌-◌, cond, nat_eq, List, [], ◌∷◌, ◌++◌, get_or, drop, map, refl, sym, ap, ◌∙◌, arith, append_assoc}
use Rattle.std.proofs.Math.Nat.{pow-succ'}
use Rattle.rg_gates.specs.declared.Lit.{Lit}
use Rattle.rg_gates.specs.Circuit.{Circuit, lit_value}
use Rattle.rg_gates.specs.Extends.{GatesHold}
use Rattle.rg_words.specs.Layout.{Word}
use Rattle.rg_tree.specs.ConditionTrees.{ConditionTree, SecondState, same, free, after, before, reached, all_hold, goal_holds, condition_holds, ConditionTyped}
use Rattle.rg_rows.specs.Rows.{row_value}
use Rattle.rg_rows.specs.Inputs.{variables, first_rows, free_rows, total_width, before_rows, second_of, number_bits, state_bits, free_bits, second_bits, input_bits}
use Rattle.rg_bits.specs.Conditions.{condition_of}
use Rattle.rg_words.specs.States.{IsState, AgreeOnFixed, SameIf}
use Rattle.rg_rows.proofs.RowsMean.{number_of}
use Rattle.rg_bits.proofs.Numbers.{low_bit}
use Rattle.rg_rows.proofs.InputRows.{total_cons}
use Rattle.rg_bits.proofs.FormulaLaw.{condition_law}

-- the value at n, and those after it
head_at : (values : List Bool) (n : ℕ) (b : Bool) (rest : List Bool) → drop n values ≡ b ∷ rest → get_or values n false ≡ b
head_at [] zero b rest e = (cc)
head_at [] (suc n) b rest e = (cc)
head_at (v ∷ values) zero b rest e = (cc)
head_at (v ∷ values) (suc n) b rest e = head_at values n b rest e

tail_at : (values : List Bool) (n : ℕ) (b : Bool) (rest : List Bool) → drop n values ≡ b ∷ rest → drop (suc n) values ≡ rest
tail_at [] zero b rest e = (cc)
tail_at [] (suc n) b rest e = (cc)
tail_at (v ∷ values) zero b rest e = (cc)
tail_at (v ∷ values) (suc n) b rest e = tail_at values n b rest e

number_at : (values : List Bool) (n w x : ℕ) (post : List Bool) → x < 2 ^ w → drop n values ≡ number_bits w x ++ post → (row_value values (variables n w) ≡ x) × (drop (n + w) values ≡ post)
number_at values n zero x post small e = let z : n + 0 ≡ n = omega arith in (omega arith, ap (λ i. drop i values) z ∙ e)
number_at values n (suc w) x post small e =
    let half : x / 2 < 2 ^ w = omega (arith, pow-succ' 2 w) in
    let rest = number_bits w (x / 2) ++ post in
    let ih = number_at values (suc n) w (x / 2) post half (tail_at values n (nat_eq (x % 2) 1) rest e) in
    let bit : get_or values (suc n - 1) false ≡ nat_eq (x % 2) 1 = (let z : suc n - 1 ≡ n = omega arith in ap (λ i. get_or values i false) z ∙ head_at values n (nat_eq (x % 2) 1) rest e) in
    let place : n + suc w ≡ suc n + w = omega arith in
    (omega (arith, ap number_of bit, low_bit x, ih.0), ap (λ i. drop i values) place ∙ ih.1)

first_at : (values : List Bool) (n : ℕ) (words : List Word) (s : List ℕ) (post : List Bool) → IsState words s → drop n values ≡ state_bits words s ++ post → (map (row_value values) (first_rows n words) ≡ s) × (drop (n + total_width words) values ≡ post)
first_at values n [] [] post is e = let z : n + 0 ≡ n = omega arith in (refl, ap (λ i. drop i values) z ∙ e)
first_at values n [] (x ∷ s) post is e = absurd is
first_at values n (w ∷ words) [] post is e = absurd is
first_at values n (w ∷ words) (x ∷ s) post is e =
    let here = number_at values n w.width x (state_bits words s ++ post) is.0 (e ∙ append_assoc (number_bits w.width x) (state_bits words s) post) in
    let rest = first_at values (n + w.width) words s post is.1 here.1 in
    let place : n + total_width (w ∷ words) ≡ n + w.width + total_width words = omega (arith, total_cons w words) in
    (ap (λ y. y ∷ map (row_value values) (first_rows (n + w.width) words)) here.0 ∙ ap (λ ys. x ∷ ys) rest.0, ap (λ i. drop i values) place ∙ rest.1)

-- a word of the second state: the first state's row, or its own bits
word_at : (values : List Bool) (n : ℕ) (fixed : Bool) (r : List Lit) (w m x : ℕ) (post : List Bool) → row_value values r ≡ m → x < 2 ^ w → SameIf fixed m x → drop n values ≡ cond fixed [] (number_bits w x) ++ post → (row_value values (cond fixed r (variables n w)) ≡ x) × (drop (n + cond fixed 0 w) values ≡ post)
word_at values n true r w m x post is small agree e = let z : n + 0 ≡ n = omega arith in (is ∙ agree, ap (λ i. drop i values) z ∙ e)
word_at values n false r w m x post is small agree e = number_at values n w x post small e

free_at : (values : List Bool) (n : ℕ) (words : List Word) (rows : List (List Lit)) (s t : List ℕ) (post : List Bool) → map (row_value values) rows ≡ s → IsState words s → IsState words t → AgreeOnFixed words s t → drop n values ≡ free_bits words t ++ post → map (row_value values) (free_rows n words rows) ≡ t
unfolding AgreeOnFixed
free_at values n [] rows s [] post is one two agree e = refl
free_at values n [] rows s (y ∷ t) post is one two agree e = absurd two
free_at values n (w ∷ words) rows s [] post is one two agree e = absurd two
free_at values n (w ∷ words) rows [] (y ∷ t) post is one two agree e = absurd one
free_at values n (w ∷ words) [] (x ∷ s) (y ∷ t) post is one two agree e = (cc)
free_at values n (w ∷ words) (r ∷ rows) (x ∷ s) (y ∷ t) post is one two agree e =
    let head : row_value values r ≡ x = (cc) in
    let tail : map (row_value values) rows ≡ s = (cc) in
    let here = word_at values n w.fixed r w.width x y (free_bits words t ++ post) head two.0 agree.0 (e ∙ append_assoc (cond w.fixed [] (number_bits w.width y)) (free_bits words t) post) in
    ap (λ z. z ∷ map (row_value values) (free_rows (n + cond w.fixed 0 w.width) words rows)) here.0
    ∙ ap (λ ys. y ∷ ys) (free_at values (n + cond w.fixed 0 w.width) words rows s t post tail one.1 two.1 agree.1 here.1)

before_at : (second : SecondState) (words : List Word) (values : List Bool) (s t : List ℕ) (post : List Bool) → IsState words s → IsState words t → AgreeOnFixed words s t → values ≡ (state_bits words s ++ second_bits second words t) ++ post
    → (before second s (map (row_value values) (before_rows second words)) ≡ before second s t) × (reached second s (map (row_value values) (before_rows second words)) ≡ reached second s t)
before_at same words values s t post one two agree e = (refl, refl)
before_at (after as_) words values s t post one two agree e = (refl, refl)
before_at free words values s t post one two agree e =
    let first = first_at values 0 words s (free_bits words t ++ post) one (e ∙ append_assoc (state_bits words s) (free_bits words t) post) in
    let start : 0 + total_width words ≡ total_width words = omega arith in
    let at = free_at values (total_width words) words (first_rows 0 words) s t post first.0 one two agree (ap (λ i. drop i values) (sym start) ∙ first.1) in
    (at, at)

-- for every pair of states that agree on the fixed words: under their bits the literal says whether the condition holds
pub pairs_law : (c : ConditionTree) (g new : Circuit) (l : Lit) → ConditionTyped c → condition_of c g ≡ (l, new) → (s t : List ℕ) → IsState c.words s → IsState c.words t → AgreeOnFixed c.words s t → (values post : List Bool) → GatesHold new values → values ≡ input_bits c s t ++ post → lit_value values l ≡ condition_holds c s t
pairs_law c g new l typed e s t one two agree values post hold bits =
    let second = second_bits c.second c.words t in
    let first = (first_at values 0 c.words s (second ++ post) one (bits ∙ append_assoc (state_bits c.words s) second post)).0 in
    let rest = before_at c.second c.words values s t post one two agree bits in
    let y = second_of c values in
    let truth : List ℕ → List ℕ → Bool = λ (h : List ℕ) (u : List ℕ). not (all_hold c.hypotheses s h true && not (goal_holds c s u)) in
    condition_law c g new l typed e values hold ∙ ap (λ x. condition_holds c x y) first
    ∙ ap (λ h. truth h (reached c.second s y)) rest.0 ∙ ap (λ u. truth (before c.second s t) u) rest.1
