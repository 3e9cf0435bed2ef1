-- the widths of rows of input bits
use Rattle.std.proofs.Common.{◌≡◌, ℕ, zero, suc, ◌+◌, ◌<◌, Bool, true, false, cond, List, [], ◌∷◌, length, get_or, map, refl, sym, ap, ◌∙◌, arith}
use Rattle.std.proofs.lemmas.List.{length-map, get_or-map}
use Rattle.rg_gates.specs.declared.Lit.{Lit}
use Rattle.rg_words.specs.Layout.{Word, widths_of}
use Rattle.rg_tree.specs.ConditionTrees.{SecondState, same, free, after}
use Rattle.rg_rows.specs.Inputs.{variables, first_rows, free_rows, total_width, before_rows}

pub length-variables : (n w : ℕ) → length (variables n w) ≡ w
length-variables n zero = refl
length-variables n (suc w) = ap suc (length-variables (suc n) w)

pub first_lengths : (n : ℕ) (words : List Word) → map length (first_rows n words) ≡ widths_of words
first_lengths n [] = refl
first_lengths n (w ∷ words) = ap (λ l. l ∷ map length (first_rows (n + w.width) words)) (length-variables n w.width) ∙ ap (λ ws. w.width ∷ ws) (first_lengths (n + w.width) words)

free_length : (f : Bool) (r : List Lit) (n w : ℕ) → length r ≡ w → length (cond f r (variables n w)) ≡ w
free_length true r n w e = e
free_length false r n w e = length-variables n w

pub free_lengths : (n : ℕ) (words : List Word) (rows : List (List Lit)) → map length rows ≡ widths_of words → map length (free_rows n words rows) ≡ widths_of words
free_lengths n [] rows e = refl
free_lengths n (w ∷ words) [] e = (cc)
free_lengths n (w ∷ words) (r ∷ rows) e =
    let head : length r ≡ w.width = (cc) in
    let tail : map length rows ≡ widths_of words = (cc) in
    let m = n + cond w.fixed 0 w.width in
    ap (λ l. l ∷ map length (free_rows m words rows)) (free_length w.fixed r n w.width head) ∙ ap (λ ws. w.width ∷ ws) (free_lengths m words rows tail)

pub before_lengths : (second : SecondState) (words : List Word) → map length (before_rows second words) ≡ widths_of words
before_lengths same words = first_lengths 0 words
before_lengths (after as_) words = first_lengths 0 words
before_lengths free words = free_lengths (total_width words) words (first_rows 0 words) (first_lengths 0 words)

-- the k-th row is of the k-th word's width
pub row_width : (words : List Word) (rows : List (List Lit)) (k : ℕ) → map length rows ≡ widths_of words → k < length words → length (get_or rows k []) ≡ get_or (widths_of words) k 0
row_width words rows k e less =
    let sizes : length rows ≡ length words = sym (length-map rows length) ∙ ap length e ∙ length-map words (λ (w : Word). w.width) in
    sym (get_or-map length rows k [] 0 (omega arith)) ∙ ap (λ ws. get_or ws k 0) e
