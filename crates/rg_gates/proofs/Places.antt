-- what a look-up by a test of equality finds
use Rattle.std.proofs.Common.{◌≡◌, ℕ, suc, ◌+◌, ◌<◌, ◌≤◌, Bool, true, false, not, ◌||◌, cond, nat_lt, List, [], ◌∷◌, ◌++◌, length, get_or, length-append, Some, None, refl, sym, ap, ◌∙◌, inl, inr, ⊎_elim, subst, arith}
use Rattle.std.specs.Prelude.{MatchOption}
use Rattle.std.specs.List.{list_any, position_or_len, position}
use Rattle.std.proofs.lemmas.Bool.{cases_lt, false≢true}
use Rattle.std.proofs.lemmas.Bool.Decides.{nat_tests}
use Rattle.std.proofs.lemmas.List.{get_or_append_left, get_or_push}
use Rattle.std.proofs.lemmas.List.Sums.{fails_before_first, passes_at_first, prefix_len-le-length}
use Rattle.rg_gates.specs.declared.Gate.{Gate}
use Rattle.rg_words.specs.declared.limits.TheConstants.{MOST_VARIABLES}
use Rattle.rg_gates.specs.Circuit.{Circuit, IsCircuit, IsOperand, variable_count, no_gate}
use Rattle.rg_gates.specs.Table.{IsMissing, IsFirst, IsPlaced, AreDistinct}

lt-zero : (n : ℕ) → nat_lt 0 (suc n) ≡ true
lt-zero n = grind (arith, nat_tests)

lt-next : (m n : ℕ) → nat_lt m n ≡ nat_lt (1 + m) (suc n)
lt-next m n = grind (arith, nat_tests)

-- some element passes where the first that does stands within the list
any_is : (p : Gate → Bool) (xs : List Gate) → list_any p xs ≡ nat_lt (position_or_len p xs) (length xs)
any_is p [] = refl
any_is p (x ∷ xs) =
    elim (p x) as (λ b. (b || list_any p xs) ≡ nat_lt (cond (not b) (1 + position_or_len p xs) 0) (suc (length xs))) [
      | true ↦ sym (lt-zero (length xs))
      | false ↦ any_is p xs ∙ lt-next (position_or_len p xs) (length xs)
    ]

module _ (p : Gate → Bool) (g : Gate) (reads : (h : Gate) → p h ≡ true → g ≡ h) (itself : p g ≡ true) (xs : List Gate) where
  differ_before : (j : ℕ) → j < position_or_len p xs → get_or xs j no_gate ≡ g → ⊥
  differ_before j less e =
      let P : Gate → Type 0 = λ h. p h ≡ true in
      false≢true (sym (fails_before_first p xs j no_gate less) ∙ subst P (sym e) itself)

  first_is : position_or_len p xs < length xs → IsFirst xs g (position_or_len p xs)
  first_is h = (h, sym (reads _ (passes_at_first p xs no_gate h)), differ_before)

  missing_is : length xs ≤ position_or_len p xs → IsMissing xs g
  missing_is h j less = differ_before j (omega arith)

  -- what `find` gives
  pub found_at : MatchOption (position p xs) (IsMissing xs g) (IsFirst xs g)
  found_at =
      elim (nat_lt (position_or_len p xs) (length xs)) as (λ b. nat_lt (position_or_len p xs) (length xs) ≡ b → MatchOption (cond b (Some (position_or_len p xs)) None) (IsMissing xs g) (IsFirst xs g)) [
        | true ↦ λ e. first_is (grind (arith, nat_tests))
        | false ↦ λ e. missing_is (grind (arith, nat_tests))
      ] refl

  -- what `insert_full` gives
  pub placed_at : IsPlaced xs g (position_or_len p xs) (cond (list_any p xs) xs (xs ++ g ∷ []))
  placed_at =
      let bound = prefix_len-le-length (λ x. not (p x)) xs in
      elim (nat_lt (position_or_len p xs) (length xs)) as (λ b. nat_lt (position_or_len p xs) (length xs) ≡ b → IsPlaced xs g (position_or_len p xs) (cond (list_any p xs) xs (xs ++ g ∷ []))) [
        | true ↦ λ e.
            let h : position_or_len p xs < length xs = grind (arith, nat_tests) in
            inl (first_is h, ap (λ b. cond b xs (xs ++ g ∷ [])) (any_is p xs ∙ e))
        | false ↦ λ e.
            let h : length xs ≤ position_or_len p xs = grind (arith, nat_tests) in
            inr (missing_is h, omega (arith, bound), ap (λ b. cond b xs (xs ++ g ∷ [])) (any_is p xs ∙ e))
      ] refl

distinct_push : (xs : List Gate) (g : Gate) → IsMissing xs g → AreDistinct xs → AreDistinct (xs ++ g ∷ [])
distinct_push xs g missing distinct j k less small same =
    let more = length-append xs (g ∷ []) in
    let before : get_or (xs ++ g ∷ []) j no_gate ≡ get_or xs j no_gate = get_or_append_left xs (g ∷ []) no_gate j (omega (arith, more)) in
    ⊎_elim
    (λ inside. distinct j k less inside (sym before ∙ same ∙ get_or_append_left xs (g ∷ []) no_gate k inside))
    (λ last. missing j (omega (arith, more)) (sym before ∙ same ∙ get_or_push xs g no_gate k (omega (arith, more))))
    (cases_lt k (length xs))

-- one more gate of variables before it
circuit_push : (c : Circuit) (gate : Gate) → IsCircuit c → IsOperand (variable_count c) gate.first → IsOperand (variable_count c) gate.second → IsCircuit (record { inputs = c.inputs; gates = c.gates ++ gate ∷ [] })
circuit_push c gate circuit first second =
    let at = λ (P : ℕ → Gate → Type 0) (old : (k : ℕ) → k < length c.gates → P (c.inputs + k) (get_or c.gates k no_gate)) (new : P (variable_count c) gate) (k : ℕ) (h : k < length (c.gates ++ gate ∷ [])).
    ⊎_elim
    (λ less. let Q : Gate → Type 0 = λ g. P (c.inputs + k) g in subst Q (sym (get_or_append_left c.gates (gate ∷ []) no_gate k less)) (old k less))
    (λ ge.
    let e : length c.gates ≡ k = omega (arith, length-append c.gates (gate ∷ []), h) in
    let Q : Gate → Type 0 = λ g. P (c.inputs + k) g in
    let R : ℕ → Type 0 = λ n. P (c.inputs + n) gate in
    subst Q (sym (get_or_push c.gates gate no_gate k e)) (subst R e new))
    (cases_lt k (length c.gates)) in
    record {
      first = at (λ n g. IsOperand n g.first) circuit.first first;
      second = at (λ n g. IsOperand n g.second) circuit.second second;
    }

-- gates stay formed where one has its place among them
pub placed_formed : (inputs : ℕ) (old new : List Gate) (g : Gate) (k : ℕ) → IsPlaced old g k new → inputs + length old < MOST_VARIABLES
    → IsCircuit (record { inputs = inputs; gates = old }) → IsOperand (inputs + length old) g.first → IsOperand (inputs + length old) g.second → AreDistinct old
    → (inputs + length new ≤ MOST_VARIABLES) × IsCircuit (record { inputs = inputs; gates = new }) × AreDistinct new
placed_formed inputs old new g k placed less formed first second distinct =
    let P : List Gate → Type 0 = λ gates. (inputs + length gates ≤ MOST_VARIABLES) × IsCircuit (record { inputs = inputs; gates = gates }) × AreDistinct gates in
    ⊎_elim
    (λ w. subst P (sym w.1) (omega arith, formed, distinct))
    (λ w. subst P (sym w.2) (omega (arith, length-append old (g ∷ [])), circuit_push (record { inputs = inputs; gates = old }) g formed first second, distinct_push old g w.0 distinct))
    placed
