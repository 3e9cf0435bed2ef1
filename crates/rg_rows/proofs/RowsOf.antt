-- The rows in vectors, one by one.
use Rattle.std.proofs.Common.{◌≡◌, ℕ, zero, suc, ◌+◌, ◌<◌, List, [], ◌∷◌, length, get_or, drop, sym, ap, ◌∙◌, arith, add-one}
use Rattle.std.specs.Prelude.{Vec}
use Rattle.std.specs.Global.{Global}
use Rattle.std.proofs.lemmas.List.{length-map, get_or-map}
use Rattle.rg_gates.specs.declared.Lit.{Lit}
use Rattle.rg_rows.specs.Within.{rows_of}

-- the row of a word, as it is read
pub row_at : (xs : List (Vec Lit Global)) (k : ℕ) (x : Vec Lit Global) (read : List Lit) → k < length xs → x ≡ get_or xs k x → read ≡ x.items → get_or (rows_of xs) k [] ≡ read
unfolding rows_of
row_at xs k x read less at e = get_or-map (λ (r : Vec Lit Global). r.items) xs k x [] less ∙ ap (λ (r : Vec Lit Global). r.items) (sym at) ∙ sym e

pub drop_row : (rows : List (List Lit)) (i : ℕ) (row : List Lit) → i < length rows → get_or rows i [] ≡ row → drop i rows ≡ row ∷ drop (i + 1) rows
drop_row [] i row less at = absurd (omega arith)
drop_row (r ∷ rows) zero row less at = ap (λ x. x ∷ rows) at
drop_row (r ∷ rows) (suc i) row less at = drop_row rows i row (omega arith) at ∙ ap (λ j. row ∷ drop j rows) (add-one i) ∙ ap (λ j. row ∷ drop j (r ∷ rows)) (sym (add-one (suc i)))

pub length-rows_of : (xs : List (Vec Lit Global)) → length (rows_of xs) ≡ length xs
unfolding rows_of
length-rows_of xs = length-map xs (λ (r : Vec Lit Global). r.items)
