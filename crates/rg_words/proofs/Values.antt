-- Lists of values below 2 to the power of their widths.
use Rattle.std.proofs.Common.{◌≡◌, ℕ, ◌<◌, ◌^◌, zero, suc, List, [], ◌∷◌, length, replicate, slice_set, pow_pos, refl, ap, arith}
use Rattle.std.specs.Prelude.{slice_index}
use Rattle.rg_words.specs.Layout.{Word}
use Rattle.rg_words.specs.States.{AreValues, IsState}

-- there are as many values as widths
pub length-AreValues : (ws xs : List ℕ) → AreValues ws xs → length ws ≡ length xs
length-AreValues [] [] h = refl
length-AreValues (w ∷ ws) (x ∷ xs) h = ap suc (length-AreValues ws xs h.1)
length-AreValues [] (x ∷ xs) h = absurd h
length-AreValues (w ∷ ws) [] h = absurd h

-- each value is below
pub AreValues-at : (ws xs : List ℕ) (i : ℕ) → AreValues ws xs → i < length xs → slice_index xs i < 2 ^ slice_index ws i
AreValues-at [] [] i h lt = absurd (omega arith)
AreValues-at (w ∷ ws) (x ∷ xs) zero h lt = h.0
AreValues-at (w ∷ ws) (x ∷ xs) (suc i) h lt = AreValues-at ws xs i h.1 (omega arith)
AreValues-at [] (x ∷ xs) i h lt = absurd h
AreValues-at (w ∷ ws) [] i h lt = absurd h

-- and so it is after one of them is changed
pub AreValues-set : (ws xs : List ℕ) (i x : ℕ) → AreValues ws xs → x < 2 ^ slice_index ws i → AreValues ws (slice_set xs i x)
AreValues-set [] [] i y h lt = h
AreValues-set (w ∷ ws) (x ∷ xs) zero y h lt = (lt, h.1)
AreValues-set (w ∷ ws) (x ∷ xs) (suc i) y h lt = (h.0, AreValues-set ws xs i y h.1 lt)
AreValues-set [] (x ∷ xs) i y h lt = absurd h
AreValues-set (w ∷ ws) [] i y h lt = absurd h

-- zeros are values of every width
pub AreValues-zeros : (ws : List ℕ) → AreValues ws (replicate (length ws) 0)
AreValues-zeros [] = tt
AreValues-zeros (w ∷ ws) = (pow_pos w, AreValues-zeros ws)

-- so many values, each below
pub AreValues-from : (ws xs : List ℕ) → length ws ≡ length xs → ((i : ℕ) → i < length xs → slice_index xs i < 2 ^ slice_index ws i) → AreValues ws xs
AreValues-from [] [] e h = tt
AreValues-from (w ∷ ws) (x ∷ xs) e h = (h 0 (omega arith), AreValues-from ws xs (omega (arith, e)) (λ i lt. h (suc i) (omega arith)))
AreValues-from [] (x ∷ xs) e h = absurd (omega arith)
AreValues-from (w ∷ ws) [] e h = absurd (omega arith)

-- the state of these words that is all 0
pub IsState-zeros : (words : List Word) → IsState words (replicate (length words) 0)
IsState-zeros [] = tt
IsState-zeros (w ∷ ws) = (pow_pos w.width, IsState-zeros ws)
