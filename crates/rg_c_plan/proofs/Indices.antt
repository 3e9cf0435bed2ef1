-- Indices that are the same, and that stay what they are.
use Rattle.std.proofs.Common.{◌≡◌, ◌≢◌, ◌∙◌, ℕ, zero, suc, true, false, not, ◌&&◌, ◌||◌, nat_eq, cond, List, [], ◌∷◌, refl, ap, sym}
use Rattle.std.specs.Prelude.{slice_index, slice_set}
use Rattle.std.proofs.lemmas.Bool.{true≢false, or_parts, and_parts, eqb-true, eq-eqb}
use Rattle.rg_words.specs.declared.operators.Operator.{Operator}
use Rattle.rg_words.specs.declared.operators.Operator.TheVariants.{Add, Subtract, BitAnd, BitOr, BitXor}
use Rattle.rg_tree.specs.Trees.{Expression, Proposition, number, word, next_word, inverse, binary, shifted, choice, truth, negation, connected, compared}
use Rattle.rg_tree.specs.Meaning.{operated, moved, is_so, joined, value_of, holds}
use Rattle.rg_c_plan.specs.Accesses.{stands_in, stands_in_formula}
use Rattle.rg_c_plan.specs.Once.{is_operator, is_index}

same_operator : (o p : Operator) → is_operator o p ≡ true → o ≡ p
same_operator Add Add h = refl
same_operator Add Subtract h = cc h
same_operator Add BitAnd h = cc h
same_operator Add BitOr h = cc h
same_operator Add BitXor h = cc h
same_operator Subtract Add h = cc h
same_operator Subtract Subtract h = refl
same_operator Subtract BitAnd h = cc h
same_operator Subtract BitOr h = cc h
same_operator Subtract BitXor h = cc h
same_operator BitAnd Add h = cc h
same_operator BitAnd Subtract h = cc h
same_operator BitAnd BitAnd h = refl
same_operator BitAnd BitOr h = cc h
same_operator BitAnd BitXor h = cc h
same_operator BitOr Add h = cc h
same_operator BitOr Subtract h = cc h
same_operator BitOr BitAnd h = cc h
same_operator BitOr BitOr h = refl
same_operator BitOr BitXor h = cc h
same_operator BitXor Add h = cc h
same_operator BitXor Subtract h = cc h
same_operator BitXor BitAnd h = cc h
same_operator BitXor BitOr h = cc h
same_operator BitXor BitXor h = refl

-- what passes for the same index is the same
pub same_index : (e f : Expression) → is_index e f ≡ true → e ≡ f
same_index (number w n) (number v m) h =
    let parts = and_parts (nat_eq w v) (nat_eq n m) h in
    ap (λ i. number i n) (eqb-true w v parts.0) ∙ ap (λ i. number v i) (eqb-true n m parts.1)
same_index (number w n) (word j) h = cc h
same_index (number w n) (next_word j) h = cc h
same_index (number w n) (inverse v c) h = cc h
same_index (number w n) (binary p v c d) h = cc h
same_index (number w n) (shifted g v c m) h = cc h
same_index (number w n) (choice f c d) h = cc h
same_index (word k) (number v m) h = cc h
same_index (word k) (word j) h =
    ap (λ i. word i) (eqb-true k j h)
same_index (word k) (next_word j) h = cc h
same_index (word k) (inverse v c) h = cc h
same_index (word k) (binary p v c d) h = cc h
same_index (word k) (shifted g v c m) h = cc h
same_index (word k) (choice f c d) h = cc h
same_index (binary o w a b) (number v m) h = cc h
same_index (binary o w a b) (word j) h = cc h
same_index (binary o w a b) (next_word j) h = cc h
same_index (binary o w a b) (inverse v c) h = cc h
same_index (binary o w a b) (binary p v c d) h =
    let parts = and_parts (is_operator o p && nat_eq w v) (is_index a c && is_index b d) h in
    let heads = and_parts (is_operator o p) (nat_eq w v) parts.0 in
    let sides = and_parts (is_index a c) (is_index b d) parts.1 in
    ap (λ q. binary q w a b) (same_operator o p heads.0) ∙ ap (λ i. binary p i a b) (eqb-true w v heads.1)
    ∙ ap (λ e. binary p v e b) (same_index a c sides.0) ∙ ap (λ e. binary p v c e) (same_index b d sides.1)
same_index (binary o w a b) (shifted g v c m) h = cc h
same_index (binary o w a b) (choice f c d) h = cc h
same_index (next_word k) e h = cc h
same_index (inverse w a) e h = cc h
same_index (shifted s w a n) e h = cc h
same_index (choice f a b) e h = cc h

-- another word keeps its value
index_other : (s : List ℕ) (k j x : ℕ) → k ≢ j → slice_index (slice_set s k x) j ≡ slice_index s j
index_other [] zero j x ne = refl
index_other [] (suc k) j x ne = refl
index_other (y ∷ s) zero zero x ne = absurd (ne refl)
index_other (y ∷ s) zero (suc j) x ne = refl
index_other (y ∷ s) (suc k) zero x ne = refl
index_other (y ∷ s) (suc k) (suc j) x ne = index_other s k j x (λ e. ne (ap suc e))

index_apart : (s : List ℕ) (k j x : ℕ) → nat_eq k j ≡ false → slice_index (slice_set s k x) j ≡ slice_index s j
index_apart s k j x h = index_other s k j x (λ e. true≢false (sym (eq-eqb k j e) ∙ h))

module _ (s : List ℕ) (k x : ℕ) where
  abbrev after : List ℕ
  after = slice_set s k x

  mutual
    -- a value in which a word doesn't stand is the same after the word was changed
    pub value_stays : (e : Expression) → stands_in k e ≡ false → value_of e after after ≡ value_of e s s
    value_stays (number w n) h = refl
    value_stays (word j) h = index_apart s k j x h
    value_stays (next_word j) h = index_apart s k j x h
    value_stays (inverse w a) h = let e = value_stays a h in rw e refl
    value_stays (binary o w a b) h =
        let parts = or_parts (stands_in k a) (stands_in k b) h in
        ap (λ n. operated o w n (value_of b after after)) (value_stays a parts.0) ∙ ap (operated o w (value_of a s s)) (value_stays b parts.1)
    value_stays (shifted d w a n) h = ap (λ m. moved d w m n) (value_stays a h)
    value_stays (choice f a b) h =
        let parts = or_parts (stands_in_formula k f) (stands_in k a || stands_in k b) h in
        let sides = or_parts (stands_in k a) (stands_in k b) parts.1 in
        ap (λ t. cond t (value_of a after after) (value_of b after after)) (truth_stays f parts.0)
        ∙ ap (λ n. cond (holds f s s) n (value_of b after after)) (value_stays a sides.0)
        ∙ ap (cond (holds f s s) (value_of a s s)) (value_stays b sides.1)

    pub truth_stays : (f : Proposition) → stands_in_formula k f ≡ false → holds f after after ≡ holds f s s
    truth_stays (truth b) h = refl
    truth_stays (negation f) h = ap (λ t. not t) (truth_stays f h)
    truth_stays (connected c f g) h =
        let parts = or_parts (stands_in_formula k f) (stands_in_formula k g) h in
        ap (λ t. joined c t (holds g after after)) (truth_stays f parts.0) ∙ ap (joined c (holds f s s)) (truth_stays g parts.1)
    truth_stays (compared c a b) h =
        let parts = or_parts (stands_in k a) (stands_in k b) h in
        ap (λ n. is_so c n (value_of b after after)) (value_stays a parts.0) ∙ ap (is_so c (value_of a s s)) (value_stays b parts.1)
