-- the states that values stand for
use Rattle.std.proofs.Common.{◌≡◌, ℕ, zero, suc, ◌+◌, ◌-◌, ◌*◌, ◌/◌, ◌%◌, ◌^◌, ◌<◌, ◌≤◌, Bool, true, false, cond, nat_eq, List, [], ◌∷◌, ◌++◌, length, get_or, map, set, All, take, drop, ⊎_elim, refl, sym, ap, ◌∙◌, arith, subst, drop-cons, length-append, length-drop, drop-drop}
use Rattle.std.proofs.Math.Nat.{pow-le-pow_right}
use Rattle.std.proofs.Math.Seq.{take-add}
use Rattle.std.proofs.lemmas.Bool.{cases_lt}
use Rattle.std.proofs.lemmas.Bool.Decides.{nat_tests}
use Rattle.std.proofs.lemmas.List.{length-map, get_or-map, get_or-set_same, get_or-set_other, ext_get_or}
use Rattle.std.proofs.lemmas.List.Elements.{All-head, All-tail}
use Rattle.std.specs.Prelude.{Vec}
use Rattle.std.specs.Global.{Global}
use Rattle.rg_gates.specs.declared.Lit.{Lit}
use Rattle.rg_gates.specs.declared.Lit.TheVariants.{True}
use Rattle.rg_gates.specs.Circuit.{lit_value}
use Rattle.rg_words.specs.Layout.{Word, widths_of, IsWidth, IsLayout}
use Rattle.rg_words.specs.States.{AreValues, IsState, SameIf, AgreeOnFixed, IsPair}
use Rattle.rg_tree.specs.ConditionTrees.{ConditionTree, SecondState, same, free, after}
use Rattle.rg_rows.specs.Rows.{row_value}
use Rattle.rg_rows.specs.Within.{rows_of}
use Rattle.rg_rows.specs.Inputs.{variables, first_rows, free_rows, total_width, free_width, before_rows, second_width, inputs_of, first_of, second_of, number_bits, state_bits, free_bits, second_bits, input_bits}
use Rattle.rg_rows.proofs.RowsMean.{number_of}
use Rattle.rg_bits.proofs.Numbers.{row_value-lt}
use Rattle.rg_rows.proofs.InputRows.{total_cons, free_cons, length-first_rows}
use Rattle.rg_rows.proofs.RowsOf.{row_at, length-rows_of}
use Rattle.rg_bits.proofs.Widths.{first_lengths, before_lengths, row_width}

-- a row of at most 64 literals stands for a number of 64 bits
pub row_limit : (v : List Bool) (row : List Lit) → length row ≤ 64 → row_value v row < 18446744073709551616
row_limit v row h =
    let positive : 0 < 2 = omega arith in
    omega (arith, row_value-lt v row, pow-le-pow_right positive h)

-- one bit more of the row, from its high end on
pub row_next : (v : List Bool) (row : List Lit) (i j : ℕ) (number : ℕ) → i < length row → j + i + 1 ≡ length row → number ≡ row_value v (drop (length row - i) row) → row_value v (drop j row) ≡ 2 * number + number_of (lit_value v (get_or row j True))
row_next v row i j number less place so_far =
    let f : suc j ≡ length row - i = omega arith in
    let e = ap (row_value v) (drop-cons row j True (omega arith)) ∙ ap (λ k. number_of (lit_value v (get_or row j True)) + 2 * row_value v (drop k row)) f in
    omega (arith, e, so_far)

pub row_next-limit : (v : List Bool) (row : List Lit) (i j : ℕ) (number : ℕ) → i < length row → j + i + 1 ≡ length row → number ≡ row_value v (drop (length row - i) row) → length row ≤ 64 → 2 * number + number_of (lit_value v (get_or row j True)) < 18446744073709551616
row_next-limit v row i j number less place so_far limit = omega (arith, row_next v row i j number less place so_far, row_limit v (drop j row) (omega (arith, length-drop j row)))

width_limit : (words : List Word) (k : ℕ) → All (λ w. IsWidth w.width) words → get_or (widths_of words) k 0 ≤ 64
width_limit [] k h = omega arith
width_limit (w ∷ words) zero h = let P : Word → Type 0 = λ x. IsWidth x.width in let here = All-head P w words h in here.1
width_limit (w ∷ words) (suc k) h = let P : Word → Type 0 = λ x. IsWidth x.width in width_limit words k (All-tail P w words h)

pub rows_count : (words : List Word) (rows : List (Vec Lit Global)) → map length (rows_of rows) ≡ widths_of words → length rows ≡ length words
rows_count words rows e = sym (length-rows_of rows) ∙ sym (length-map (rows_of rows) length) ∙ ap length e ∙ length-map words (λ (w : Word). w.width)

-- a word's row as it is read
module _ (words : List Word) (rows : List (Vec Lit Global)) (k : ℕ) (x : Vec Lit Global) (read : List Lit) (e : map length (rows_of rows) ≡ widths_of words) (less : k < length words) where
  module _ (at : x ≡ get_or rows k x) (is : read ≡ x.items) where
    pub read_is : get_or (rows_of rows) k [] ≡ read
    read_is = row_at rows k x read (omega (arith, rows_count words rows e)) at is

    pub read_width : length read ≡ get_or (widths_of words) k 0
    read_width = ap length (sym read_is) ∙ row_width words (rows_of rows) k e less

    pub read_limit : IsLayout words → length read ≤ 64
    read_limit h = omega (arith, read_width, width_limit words k h.widths)

    pub read_fits : (v : List Bool) → row_value v read < 2 ^ get_or (widths_of words) k 0
    read_fits v = let P : ℕ → Type 0 = λ n. row_value v read < 2 ^ n in subst P read_width (row_value-lt v read)

    pub read_more : (v : List Bool) (values : List ℕ) → length values ≡ length words → ((j : ℕ) → j < k → get_or values j 0 ≡ row_value v (get_or (rows_of rows) j []))
        → (j : ℕ) → j < k + 1 → get_or (set values k (row_value v read)) j 0 ≡ row_value v (get_or (rows_of rows) j [])
    read_more v values size so_far j less_ = ⊎_elim
        (λ below. get_or-set_other values k j (row_value v read) 0 (λ same_place. omega arith) ∙ so_far j below)
        (λ past. let here : j ≡ k = omega arith in
        let P : ℕ → Type 0 = λ i. get_or (set values k (row_value v read)) i 0 ≡ row_value v (get_or (rows_of rows) i []) in
        subst P (sym here) (get_or-set_same values k (row_value v read) 0 (omega arith) ∙ ap (row_value v) (sym read_is)))
        (cases_lt j k)

pub all_read : (v : List Bool) (words : List Word) (rows : List (List Lit)) (values : List ℕ) (k : ℕ) → map length rows ≡ widths_of words → length values ≡ length words → length words ≤ k → ((j : ℕ) → j < k → get_or values j 0 ≡ row_value v (get_or rows j [])) → values ≡ map (row_value v) rows
all_read v words rows values k e size past so_far =
    let sizes : length rows ≡ length words = sym (length-map rows length) ∙ ap length e ∙ length-map words (λ (w : Word). w.width) in
    ext_get_or 0 values (map (row_value v) rows) (size ∙ sym sizes ∙ sym (length-map rows (row_value v)))
    (λ i less. so_far i (omega arith) ∙ sym (get_or-map (row_value v) rows i [] 0 (omega arith)))

-- rows of these widths stand for a state
rows_are_values : (v : List Bool) (rows : List (List Lit)) → AreValues (map length rows) (map (row_value v) rows)
rows_are_values v [] = tt
rows_are_values v (r ∷ rows) = (row_value-lt v r, rows_are_values v rows)

pub rows_are_state : (v : List Bool) (words : List Word) (rows : List (List Lit)) → map length rows ≡ widths_of words → IsState words (map (row_value v) rows)
rows_are_state v words rows e = let P : List ℕ → Type 0 = λ ws. AreValues ws (map (row_value v) rows) in subst P e (rows_are_values v rows)

same_value : (v : List Bool) (f : Bool) (r s : List Lit) → SameIf f (row_value v r) (row_value v (cond f r s))
same_value v true r s = refl
same_value v false r s = tt

agree : (v : List Bool) (n : ℕ) (words : List Word) (rows : List (List Lit)) → AgreeOnFixed words (map (row_value v) rows) (map (row_value v) (free_rows n words rows))
unfolding AgreeOnFixed
agree v n [] rows = tt
agree v n (w ∷ words) [] = tt
agree v n (w ∷ words) (r ∷ rows) = (same_value v w.fixed r (variables n w.width), agree v (n + cond w.fixed 0 w.width) words rows)

same_if : (f : Bool) (x : ℕ) → SameIf f x x
same_if true x = refl
same_if false x = tt

agree_self : (words : List Word) (s : List ℕ) → AgreeOnFixed words s s
unfolding AgreeOnFixed
agree_self [] s = tt
agree_self (w ∷ words) [] = tt
agree_self (w ∷ words) (x ∷ s) = (same_if w.fixed x, agree_self words s)

agree_before : (second : SecondState) (v : List Bool) (words : List Word) → AgreeOnFixed words (map (row_value v) (first_rows 0 words)) (map (row_value v) (before_rows second words))
agree_before same v words = agree_self words (map (row_value v) (first_rows 0 words))
agree_before (after as_) v words = agree_self words (map (row_value v) (first_rows 0 words))
agree_before free v words = agree v (total_width words) words (first_rows 0 words)

-- the states that values stand for are states, and agree on the fixed words
pub pair_law : (c : ConditionTree) (v : List Bool) → IsPair c.words (first_of c v) (second_of c v)
pair_law c v = record {
  first = rows_are_state v c.words (first_rows 0 c.words) (first_lengths 0 c.words);
  second = rows_are_state v c.words (before_rows c.second c.words) (before_lengths c.second c.words);
  fixed = agree_before c.second v c.words;
}

-- the bits of what a row of input bits stands for
half_low : (b : Bool) (n : ℕ) → (number_of b + 2 * n) / 2 ≡ n
half_low true n = omega arith
half_low false n = omega arith

low_is : (b : Bool) (n : ℕ) → nat_eq ((number_of b + 2 * n) % 2) 1 ≡ b
low_is true n = grind (arith, nat_tests)
low_is false n = grind (arith, nat_tests)

number_bits_are : (v : List Bool) (n w : ℕ) → n + w ≤ length v → number_bits w (row_value v (variables n w)) ≡ take w (drop n v)
number_bits_are v n zero h = refl
number_bits_are v n (suc w) h =
    let b = get_or v n false in
    let r = row_value v (variables (suc n) w) in
    let place : suc n - 1 ≡ n = omega arith in
    let value : row_value v (variables n (suc w)) ≡ number_of b + 2 * r = ap (λ i. number_of (get_or v i false) + 2 * r) place in
    ap (number_bits (suc w)) value
    ∙ ap (λ x. x ∷ number_bits w ((number_of b + 2 * r) / 2)) (low_is b r) ∙ ap (λ m. b ∷ number_bits w m) (half_low b r)
    ∙ ap (λ bits. b ∷ bits) (number_bits_are v (suc n) w (omega arith)) ∙ ap (take (suc w)) (sym (drop-cons v n false (omega arith)))

take_both : (v : List Bool) (n a b : ℕ) → take a (drop n v) ++ take b (drop (n + a) v) ≡ take (a + b) (drop n v)
take_both v n a b = ap (λ xs. take a (drop n v) ++ take b xs) (sym (drop-drop a n v)) ∙ sym (take-add a b (drop n v))

state_bits_are : (v : List Bool) (n : ℕ) (words : List Word) → n + total_width words ≤ length v → state_bits words (map (row_value v) (first_rows n words)) ≡ take (total_width words) (drop n v)
state_bits_are v n [] h = refl
state_bits_are v n (w ∷ words) h =
    let e = total_cons w words in
    ap (λ bits. bits ++ state_bits words (map (row_value v) (first_rows (n + w.width) words))) (number_bits_are v n w.width (omega arith))
    ∙ ap (λ bits. take w.width (drop n v) ++ bits) (state_bits_are v (n + w.width) words (omega arith))
    ∙ take_both v n w.width (total_width words) ∙ ap (λ k. take k (drop n v)) (sym e)

own_bits : (v : List Bool) (n w : ℕ) (f : Bool) (r : List Lit) → n + cond f 0 w ≤ length v → cond f [] (number_bits w (row_value v (cond f r (variables n w)))) ≡ take (cond f 0 w) (drop n v)
own_bits v n w true r h = refl
own_bits v n w false r h = number_bits_are v n w h

free_bits_are : (v : List Bool) (n : ℕ) (words : List Word) (rows : List (List Lit)) → length rows ≡ length words → n + free_width words ≤ length v → free_bits words (map (row_value v) (free_rows n words rows)) ≡ take (free_width words) (drop n v)
free_bits_are v n [] rows sizes h = refl
free_bits_are v n (w ∷ words) [] sizes h = absurd (omega arith)
free_bits_are v n (w ∷ words) (r ∷ rows) sizes h =
    let e = free_cons w words in
    let own = cond w.fixed 0 w.width in
    ap (λ bits. bits ++ free_bits words (map (row_value v) (free_rows (n + own) words rows))) (own_bits v n w.width w.fixed r (omega arith))
    ∙ ap (λ bits. take own (drop n v) ++ bits) (free_bits_are v (n + own) words rows (omega arith) (omega arith))
    ∙ take_both v n own (free_width words) ∙ ap (λ k. take k (drop n v)) (sym e)

second_bits_are : (second : SecondState) (v : List Bool) (words : List Word) → total_width words + second_width second words ≤ length v → second_bits second words (map (row_value v) (before_rows second words)) ≡ take (second_width second words) (drop (total_width words) v)
second_bits_are same v words h = refl
second_bits_are (after as_) v words h = refl
second_bits_are free v words h = free_bits_are v (total_width words) words (first_rows 0 words) (length-first_rows 0 words) h

-- values are the bits of the states that they stand for
pub bits_law : (c : ConditionTree) (v : List Bool) → inputs_of c ≤ length v → input_bits c (first_of c v) (second_of c v) ≡ take (inputs_of c) v
bits_law c v h =
    let a = total_width c.words in
    let b = second_width c.second c.words in
    ap (λ bits. bits ++ second_bits c.second c.words (second_of c v)) (state_bits_are v 0 c.words (omega arith))
    ∙ ap (λ bits. take a v ++ bits) (second_bits_are c.second v c.words h) ∙ sym (take-add a b v)

-- how many bits states have
length-number_bits : (w n : ℕ) → length (number_bits w n) ≡ w
length-number_bits zero n = refl
length-number_bits (suc w) n = ap suc (length-number_bits w (n / 2))

length-state_bits : (words : List Word) (s : List ℕ) → IsState words s → length (state_bits words s) ≡ total_width words
length-state_bits [] [] is = refl
length-state_bits [] (x ∷ s) is = absurd is
length-state_bits (w ∷ words) [] is = absurd is
length-state_bits (w ∷ words) (x ∷ s) is = omega (arith, length-append (number_bits w.width x) (state_bits words s), length-number_bits w.width x, length-state_bits words s is.1, total_cons w words)

length-own_bits : (f : Bool) (w x : ℕ) → length (cond f [] (number_bits w x)) ≡ cond f 0 w
length-own_bits true w x = refl
length-own_bits false w x = length-number_bits w x

length-free_bits : (words : List Word) (t : List ℕ) → IsState words t → length (free_bits words t) ≡ free_width words
length-free_bits [] [] is = refl
length-free_bits [] (x ∷ t) is = absurd is
length-free_bits (w ∷ words) [] is = absurd is
length-free_bits (w ∷ words) (x ∷ t) is = omega (arith, length-append (cond w.fixed [] (number_bits w.width x)) (free_bits words t), length-own_bits w.fixed w.width x, length-free_bits words t is.1, free_cons w words)

length-second_bits : (second : SecondState) (words : List Word) (t : List ℕ) → IsState words t → length (second_bits second words t) ≡ second_width second words
length-second_bits same words t is = refl
length-second_bits (after as_) words t is = refl
length-second_bits free words t is = length-free_bits words t is

pub length-input_bits : (c : ConditionTree) (s t : List ℕ) → IsState c.words s → IsState c.words t → length (input_bits c s t) ≡ inputs_of c
length-input_bits c s t one two = omega (arith, length-append (state_bits c.words s) (second_bits c.second c.words t), length-state_bits c.words s one, length-second_bits c.second c.words t two)
