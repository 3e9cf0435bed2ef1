-- how many clauses are empty
use Rattle.std.proofs.Common.{◌≡◌, ◌≤◌, ◌↔◌, ℕ, ℤ, ◌+◌, ◌<◌, zero, suc, List, [], ◌∷◌, length, get_or, refl, sym, ap, subst, ◌∙◌, inl, inr, ⊎_elim, arith}
use Rattle.std.specs.Prelude.{sum}
use Rattle.std.specs.List.{AllZip, range_with_len}
use Rattle.std.proofs.lemmas.List.FromFn.{length-range_with_len, get_or-range_with_len}
use Rattle.std.proofs.lemmas.List.Sums.{sum_by-cons}
use Rattle.rg_hints.specs.Lines.{Section, IsSection, hint_line_at, no_line}
use Rattle.rg_hints.specs.Verdict.{HasEmpty}
use Rattle.rg_pool.specs.Inner.Empties.{IsEmptyAt, IsMarkOf}

-- the number of a line is greater than the count of the given clauses and of the lines before it
pub number_above : (s : Section) → IsSection s → (k : ℕ) → k < length s.lines → s.given + k < (hint_line_at s k).id
number_above s is zero small = let past = (is.each 0 no_line small).past in omega (arith, past)
number_above s is (suc k) small =
    let before = number_above s is k (omega (arith, small)) in
    let more = is.rising k (suc k) no_line (omega arith) small in
    omega (arith, before, more)

sum_cons : (x : ℕ) (xs : List ℕ) → sum (x ∷ xs) ≡ x + sum xs
sum_cons x xs = sum_by-cons (λ y. y) x xs

module _ (given : List (List ℤ)) (s : Section) where
  -- a mark is 0 or 1
  mark_small : (place mark : ℕ) → IsMarkOf given s place mark → mark ≤ 1
  mark_small place mark m = ⊎_elim (λ one. omega (arith, one.0)) (λ none. omega (arith, none.0)) m

  -- no more are marked than there are places
  pub marks_within : (places marks : List ℕ) → AllZip (IsMarkOf given s) places marks → sum marks ≤ length places
  marks_within [] [] are = omega arith
  marks_within [] (m ∷ ms) are = absurd are
  marks_within (p ∷ ps) [] are = absurd are
  marks_within (p ∷ ps) (m ∷ ms) are = omega (arith, sum_cons m ms, mark_small p m are.0, marks_within ps ms are.1)

  -- where one is counted, one is empty
  pub some_empty : (places marks : List ℕ) → AllZip (IsMarkOf given s) places marks → 0 < sum marks → (place : ℕ) × IsEmptyAt given s place
  some_empty [] [] are some = absurd (omega (arith, some))
  some_empty [] (m ∷ ms) are some = absurd are
  some_empty (p ∷ ps) [] are some = absurd are
  some_empty (p ∷ ps) (m ∷ ms) are some =
      ⊎_elim (λ one. (p, one.1)) (λ none. some_empty ps ms are.1 (omega (arith, some, none.0, sum_cons m ms))) are.0

  -- where one is empty, one is counted
  pub empty_counted : (places marks : List ℕ) → AllZip (IsMarkOf given s) places marks → (i : ℕ) → i < length places → IsEmptyAt given s (get_or places i 0) → 0 < sum marks
  empty_counted [] marks are i small empty = absurd (omega (arith, small))
  empty_counted (p ∷ ps) [] are i small empty = absurd are
  empty_counted (p ∷ ps) (m ∷ ms) are zero small empty =
      ⊎_elim (λ one. omega (arith, one.0, sum_cons m ms)) (λ none. absurd (none.1 empty)) are.0
  empty_counted (p ∷ ps) (m ∷ ms) are (suc i) small empty =
      omega (arith, sum_cons m ms, empty_counted ps ms are.1 i (omega (arith, small)) empty)

  empty_is : (place : ℕ) → IsEmptyAt given s place → HasEmpty given s
  empty_is place at = ⊎_elim (λ clause. inl (place, clause.0, clause.1)) (λ line. inr (line.0, line.2, line.3)) at

  empty_stands : HasEmpty given s → (place : ℕ) × (place < length given + length s.lines) × IsEmptyAt given s place
  empty_stands has =
      ⊎_elim
      (λ clause. (clause.0, omega (arith, clause.1), inl (clause.1, clause.2)))
      (λ line. (length given + line.0, omega (arith, line.1), inr (line.0, refl, line.1, line.2)))
      has

  -- one is empty exactly where one is counted
  pub counted : (places marks : List ℕ) → places ≡ range_with_len 0 (length given + length s.lines) → AllZip (IsMarkOf given s) places marks → (0 < sum marks) ↔ HasEmpty given s
  counted places marks all are = (
    λ some. let found = some_empty places marks are some in empty_is found.0 found.1,
    λ has.
        let found = empty_stands has in
        let n = length given + length s.lines in
        let same : 0 + found.0 ≡ found.0 = omega arith in
        let at : get_or places found.0 0 ≡ found.0 = ap (λ (ps : List ℕ). get_or ps found.0 0) all ∙ get_or-range_with_len 0 n found.0 0 found.1 ∙ same in
        let small : found.0 < length places = omega (arith, found.1, ap length all, length-range_with_len 0 n) in
        empty_counted places marks are found.0 small (subst (IsEmptyAt given s) (sym at) found.2),
  )
