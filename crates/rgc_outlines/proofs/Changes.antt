-- The texts of changed words one by one.
use Rattle.std.proofs.Common.{◌≡◌, ◌∙◌, ℕ, zero, suc, ◌+◌, ◌<◌, ◌≤◌, List, [], ◌∷◌, ◌++◌, map, min, length, drop, get_or, refl, ap, sym, add-one, arith, Vec, Global}
use Rattle.std.proofs.Math.Nat.{le-min}
use Rattle.std.proofs.lemmas.List.{append_assoc, get_or-map}
use Rattle.std.specs.Prelude.{slice_index, slice_index_or}
use Rattle.rg_monitor.specs.Lines.{change_if}
use Rattle.rgc_outlines.specs.Reported.{changes_by}

-- the name of a word, as it is read
pub name_at : (names : List (Vec ℕ Global)) (i : ℕ) (x : Vec ℕ Global) (read : List ℕ) → i < length names → x ≡ get_or names i x → read ≡ x.items → read ≡ slice_index_or (map (λ (w : Vec ℕ Global). w.items) names) i []
name_at names i x read less at e = e ∙ ap (λ (w : Vec ℕ Global). w.items) at ∙ sym (get_or-map (λ (w : Vec ℕ Global). w.items) names i x [] less)

-- the first of the words that are left
pub changes_step : (names : List (List ℕ)) (s t : List ℕ) (i : ℕ) → i < length names → i < length s → i < length t
    → changes_by (drop i names) (drop i s) (drop i t) ≡ change_if (slice_index_or names i []) (slice_index s i) (slice_index t i) ++ changes_by (drop (suc i) names) (drop (suc i) s) (drop (suc i) t)
changes_step (n ∷ ns) (x ∷ xs) (y ∷ ys) zero a b c = refl
changes_step (n ∷ ns) (x ∷ xs) (y ∷ ys) (suc i) a b c = changes_step ns xs ys i (omega arith) (omega arith) (omega arith)
changes_step [] s t i a b c = absurd (omega arith)
changes_step (n ∷ ns) [] t i a b c = absurd (omega arith)
changes_step (n ∷ ns) (x ∷ xs) [] i a b c = absurd (omega arith)

-- where it was added, the rest makes the same whole
pub changes_more : (names : List (List ℕ)) (s t : List ℕ) (i : ℕ) (old new name : List ℕ) (x y : ℕ) → i < length names → i < length s → i < length t
    → new ≡ old ++ change_if name x y → name ≡ slice_index_or names i [] → x ≡ slice_index s i → y ≡ slice_index t i
    → new ++ changes_by (drop (i + 1) names) (drop (i + 1) s) (drop (i + 1) t) ≡ old ++ changes_by (drop i names) (drop i s) (drop i t)
changes_more names s t i old new name x y a b c added named before after =
    let step = changes_step names s t i a b c in
    rw (add-one i, added, named, before, after, step) (append_assoc old (change_if (slice_index_or names i []) (slice_index s i) (slice_index t i)) (changes_by (drop (suc i) names) (drop (suc i) s) (drop (suc i) t)))

-- without values before nothing is reported
no_before : (names : List (List ℕ)) (t : List ℕ) → changes_by names [] t ≡ []
no_before [] t = refl
no_before (n ∷ ns) t = refl

-- without values after nothing is reported
no_after : (names : List (List ℕ)) (s : List ℕ) → changes_by names s [] ≡ []
no_after [] s = refl
no_after (n ∷ ns) [] = refl
no_after (n ∷ ns) (x ∷ xs) = refl

-- past the last of one of them nothing is reported
pub changes_over : (names : List (List ℕ)) (s t : List ℕ) (i : ℕ) → (i < length names → i < length s → i < length t → ⊥) → changes_by (drop i names) (drop i s) (drop i t) ≡ []
changes_over [] s t zero h = refl
changes_over [] s t (suc i) h = refl
changes_over (n ∷ ns) [] t zero h = refl
changes_over (n ∷ ns) [] t (suc i) h = no_before (drop i ns) (drop (suc i) t)
changes_over (n ∷ ns) (x ∷ xs) [] zero h = refl
changes_over (n ∷ ns) (x ∷ xs) [] (suc i) h = no_after (drop i ns) (drop i xs)
changes_over (n ∷ ns) (x ∷ xs) (y ∷ ys) zero h = absurd (h (omega arith) (omega arith) (omega arith))
changes_over (n ∷ ns) (x ∷ xs) (y ∷ ys) (suc i) h = changes_over ns xs ys i (λ a b c. h (omega (arith, a)) (omega (arith, b)) (omega (arith, c)))

-- what is below three numbers is below the least of them
pub below_least : (i a b c m k : ℕ) → m ≡ min a b → k ≡ min m c → i < a → i < b → i < c → i < k
below_least i a b c m k first second below_a below_b below_c =
    let both : suc i ≤ min a b = le-min (omega (arith, below_a)) (omega (arith, below_b)) in
    let all : suc i ≤ min m c = le-min (omega (arith, both, first)) (omega (arith, below_c)) in
    omega (arith, all, second)
