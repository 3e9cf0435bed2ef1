-- rows of input bits
use Rattle.std.proofs.Common.{◌≡◌, ℕ, zero, suc, ◌+◌, ◌-◌, ◌*◌, ◌<◌, ◌≤◌, Bool, true, false, cond, List, [], ◌∷◌, ◌++◌, All, length, get_or, drop, refl, sym, ap, ◌∙◌, arith, append_assoc, add-one, drop-cons}
use Rattle.std.specs.Prelude.{Vec}
use Rattle.std.specs.Global.{Global}
use Rattle.std.proofs.lemmas.List.{get_or-map}
use Rattle.std.proofs.lemmas.List.Sums.{sum_by-cons}
use Rattle.std.proofs.lemmas.List.Elements.{All-head, All-tail}
use Rattle.rg_gates.specs.declared.Lit.{Lit}
use Rattle.rg_gates.specs.declared.Lit.TheVariants.{Variable}
use Rattle.rg_gates.specs.Circuit.{Circuit, variable_count}
use Rattle.rg_words.specs.Layout.{Word, widths_of, fixed_of, IsWidth, IsLayout}
use Rattle.rg_rows.proofs.RowsIn.{cons_in}
use Rattle.rg_rows.specs.Within.{AreRowsIn, rows_of, IsRowIn}
use Rattle.rg_rows.specs.Inputs.{variables, first_rows, free_rows, total_width, free_width}

-- one variable more
pub variables_next : (n w i : ℕ) → i < w → variables (n + i) (w - i) ≡ Variable (n + i + 1) false ∷ variables (n + (i + 1)) (w - (i + 1))
variables_next n w i h =
    let e : w - i ≡ suc (w - (i + 1)) = omega arith in
    let f : suc (n + i) ≡ n + i + 1 = omega arith in
    let g : suc (n + i) ≡ n + (i + 1) = omega arith in
    ap (λ m. variables (n + i) m) e ∙ ap (λ m. Variable m false ∷ variables (suc (n + i)) (w - (i + 1))) f ∙ ap (λ m. Variable (n + i + 1) false ∷ variables m (w - (i + 1))) g

pub rows_of-push : (xs : List (Vec Lit Global)) (x : Vec Lit Global) → rows_of (xs ++ x ∷ []) ≡ rows_of xs ++ x.items ∷ []
unfolding rows_of
rows_of-push [] x = refl
rows_of-push (y ∷ ys) x = ap (λ rows. y.items ∷ rows) (rows_of-push ys x)

pub rows_of-nil : rows_of [] ≡ []
unfolding rows_of
rows_of-nil = refl

abbrev no_word : Word
no_word = record { name = []; width = 0; fixed = false }

drop_word : (words : List Word) (i : ℕ) → i < length words → drop i words ≡ get_or words i no_word ∷ drop (i + 1) words
drop_word words i h = drop-cons words i no_word h ∙ ap (λ j. get_or words i no_word ∷ drop j words) (sym (add-one i))

width_at : (words : List Word) (k : ℕ) → k < length words → get_or (widths_of words) k 0 ≡ (get_or words k no_word).width
width_at words k less = get_or-map (λ (w : Word). w.width) words k no_word 0 less

fixed_at : (words : List Word) (k : ℕ) → k < length words → get_or (fixed_of words) k false ≡ (get_or words k no_word).fixed
fixed_at words k less = get_or-map (λ (w : Word). w.fixed) words k no_word false less

-- one word more
pub first-turn : (words : List Word) (rows : List (Vec Lit Global)) (row : Vec Lit Global) (start n k w : ℕ) → k < length words → w ≡ get_or (widths_of words) k 0 → first_rows start words ≡ rows_of rows ++ first_rows n (drop k words) → row.items ≡ variables n w
    → first_rows start words ≡ rows_of (rows ++ row ∷ []) ++ first_rows (n + w) (drop (k + 1) words)
first-turn words rows row start n k w less width so_far is =
    let e : w ≡ (get_or words k no_word).width = width ∙ width_at words k less in
    let rest = first_rows (n + w) (drop (k + 1) words) in
    so_far ∙ ap (λ ws. rows_of rows ++ first_rows n ws) (drop_word words k less) ∙ ap (λ v. rows_of rows ++ variables n v ∷ first_rows (n + v) (drop (k + 1) words)) (sym e) ∙ ap (λ r. rows_of rows ++ r ∷ rest) (sym is)
    ∙ sym (append_assoc (rows_of rows) (row.items ∷ []) rest) ∙ ap (λ rs. rs ++ rest) (sym (rows_of-push rows row))

pub free-turn : (words : List Word) (firsts : List (List Lit)) (first : List Lit) (rows : List (Vec Lit Global)) (row : Vec Lit Global) (start n k w : ℕ) (f : Bool) → k < length words → w ≡ get_or (widths_of words) k 0 → f ≡ get_or (fixed_of words) k false → drop k firsts ≡ first ∷ drop (k + 1) firsts
    → free_rows start words firsts ≡ rows_of rows ++ free_rows n (drop k words) (drop k firsts) → row.items ≡ cond f first (variables n w)
    → free_rows start words firsts ≡ rows_of (rows ++ row ∷ []) ++ free_rows (n + cond f 0 w) (drop (k + 1) words) (drop (k + 1) firsts)
free-turn words firsts first rows row start n k w f less width fixed at so_far is =
    let e : w ≡ (get_or words k no_word).width = width ∙ width_at words k less in
    let g : f ≡ (get_or words k no_word).fixed = fixed ∙ fixed_at words k less in
    let member = get_or words k no_word in
    let rest = free_rows (n + cond f 0 w) (drop (k + 1) words) (drop (k + 1) firsts) in
    so_far ∙ ap (λ ws. rows_of rows ++ free_rows n ws (drop k firsts)) (drop_word words k less) ∙ ap (λ rs. rows_of rows ++ free_rows n (member ∷ drop (k + 1) words) rs) at
    ∙ ap (λ v. rows_of rows ++ cond member.fixed first (variables n v) ∷ free_rows (n + cond member.fixed 0 v) (drop (k + 1) words) (drop (k + 1) firsts)) (sym e)
    ∙ ap (λ b. rows_of rows ++ cond b first (variables n w) ∷ free_rows (n + cond b 0 w) (drop (k + 1) words) (drop (k + 1) firsts)) (sym g)
    ∙ ap (λ r. rows_of rows ++ r ∷ rest) (sym is)
    ∙ sym (append_assoc (rows_of rows) (row.items ∷ []) rest) ∙ ap (λ rs. rs ++ rest) (sym (rows_of-push rows row))

pub total_cons : (w : Word) (words : List Word) → total_width (w ∷ words) ≡ w.width + total_width words
total_cons w words = sum_by-cons (λ (x : Word). x.width) w words

pub free_cons : (w : Word) (words : List Word) → free_width (w ∷ words) ≡ cond w.fixed 0 w.width + free_width words
free_cons w words = sum_by-cons (λ (x : Word). cond x.fixed 0 x.width) w words

-- at most 64 words of at most 64 bits
cond_most : (b : Bool) (n : ℕ) → cond b 0 n ≤ n
cond_most true n = omega arith
cond_most false n = omega arith

widths_most : (words : List Word) → All (λ w. IsWidth w.width) words → (total_width words ≤ 64 * length words) × (free_width words ≤ total_width words)
widths_most [] h = (omega arith, omega arith)
widths_most (w ∷ words) h =
    let P : Word → Type 0 = λ x. IsWidth x.width in
    let rest = widths_most words (All-tail P w words h) in
    let here = All-head P w words h in
    (omega (arith, total_cons w words, rest.0, here.1), omega (arith, total_cons w words, free_cons w words, rest.1, cond_most w.fixed w.width))

pub total_limit : (words : List Word) → IsLayout words → total_width words ≤ 4096
total_limit words h = omega (arith, (widths_most words h.widths).0, h.count)

pub free_limit : (words : List Word) → IsLayout words → free_width words ≤ 4096
free_limit words h = omega (arith, total_limit words h, (widths_most words h.widths).1)

-- the bits of the words before the k-th, and of the k-th
pub total_next : (words : List Word) (k n all : ℕ) → k < length words → n + total_width (drop k words) ≡ all → n + get_or (widths_of words) k 0 + total_width (drop (k + 1) words) ≡ all
total_next words k n all less so_far =
    let member = get_or words k no_word in
    omega (arith, width_at words k less, ap total_width (drop_word words k less), total_cons member (drop (k + 1) words))

pub free_next : (words : List Word) (k n all : ℕ) → k < length words → n + free_width (drop k words) ≡ all → n + cond (get_or (fixed_of words) k false) 0 (get_or (widths_of words) k 0) + free_width (drop (k + 1) words) ≡ all
free_next words k n all less so_far =
    let member = get_or words k no_word in
    let e = ap (λ w. cond (get_or (fixed_of words) k false) 0 w) (width_at words k less) ∙ ap (λ f. cond f 0 member.width) (fixed_at words k less) in
    omega (arith, e, ap free_width (drop_word words k less), free_cons member (drop (k + 1) words))

pub ruleset input_steps = (total_limit, free_limit)

-- the rows are of the inputs
variables_in : (c : Circuit) (n w : ℕ) → n + w ≤ variable_count c → IsRowIn c (variables n w)
variables_in c n zero h = record { bits = λ k. record { bound = tt } }
variables_in c n (suc w) h = cons_in c (Variable (suc n) false) (variables (suc n) w) (record { bound = (omega arith, omega arith) }) (variables_in c (suc n) w (omega arith))

rows_cons : (c : Circuit) (row : List Lit) (rows : List (List Lit)) → IsRowIn c row → AreRowsIn c rows → AreRowsIn c (row ∷ rows)
rows_cons c row rows h rest = record { word = word_at } where
  word_at : (k : ℕ) → IsRowIn c (get_or (row ∷ rows) k [])
  word_at zero = h
  word_at (suc k) = rest.word k

pub first_in : (c : Circuit) (n : ℕ) (words : List Word) → n + total_width words ≤ variable_count c → AreRowsIn c (first_rows n words)
first_in c n [] h = record { word = λ k. record { bits = λ j. record { bound = tt } } }
first_in c n (w ∷ words) h = let e = total_cons w words in rows_cons c (variables n w.width) (first_rows (n + w.width) words) (variables_in c n w.width (omega arith)) (first_in c (n + w.width) words (omega arith))

tail_in : (c : Circuit) (row : List Lit) (rows : List (List Lit)) → AreRowsIn c (row ∷ rows) → AreRowsIn c rows
tail_in c row rows h = record { word = λ k. h.word (suc k) }

chosen_row : (c : Circuit) (fixed : Bool) (row : List Lit) (n w : ℕ) → IsRowIn c row → n + cond fixed 0 w ≤ variable_count c → IsRowIn c (cond fixed row (variables n w))
chosen_row c true row n w h bound = h
chosen_row c false row n w h bound = variables_in c n w bound

pub free_in : (c : Circuit) (n : ℕ) (words : List Word) (rows : List (List Lit)) → AreRowsIn c rows → n + free_width words ≤ variable_count c → AreRowsIn c (free_rows n words rows)
free_in c n [] rows h bound = record { word = λ k. record { bits = λ j. record { bound = tt } } }
free_in c n (w ∷ words) [] h bound = record { word = λ k. record { bits = λ j. record { bound = tt } } }
free_in c n (w ∷ words) (r ∷ rows) h bound =
    let e = free_cons w words in
    rows_cons c (cond w.fixed r (variables n w.width)) (free_rows (n + cond w.fixed 0 w.width) words rows) (chosen_row c w.fixed r n w.width (h.word 0) (omega arith)) (free_in c (n + cond w.fixed 0 w.width) words rows (tail_in c r rows h) (omega arith))

pub length-first_rows : (n : ℕ) (words : List Word) → length (first_rows n words) ≡ length words
length-first_rows n [] = refl
length-first_rows n (w ∷ words) = ap suc (length-first_rows (n + w.width) words)

pub length-free_rows : (n : ℕ) (words : List Word) (rows : List (List Lit)) → length rows ≡ length words → length (free_rows n words rows) ≡ length words
length-free_rows n [] rows h = refl
length-free_rows n (w ∷ words) [] h = absurd (omega arith)
length-free_rows n (w ∷ words) (r ∷ rows) h = ap suc (length-free_rows (n + cond w.fixed 0 w.width) words rows (omega arith))
