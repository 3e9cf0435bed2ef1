-- Which parts interrupt which.
use Rattle.std.proofs.Common.{◌≡◌, ◌≢◌, ◌∙◌, ℕ, ◌+◌, ◌-◌, ◌<◌, Bool, true, false, not, ◌&&◌, nat_eq, List, Option, Some, None, ◌⊎◌, inl, inr, refl, ap, sym, arith}
use Rattle.std.specs.Prelude.{nat_lt}
use Rattle.std.proofs.lemmas.Bool.{true≢false, not_from_true, not_from_false, and_left, and_right, and_parts, and_from, or_from, or_right, eqb-true, eq-eqb, ne_eqb, ltb-true, lt-ltb, le-ltb, cases_order}
use Rattle.rg_c_plan.specs.declared.order.Rank.{Rank}
use Rattle.rg_c_plan.specs.Orders.{rank_of, is_above, interrupts, may_act}
use Rattle.rg_c_plan.specs.Laws.{OrdersAreStrict}

-- no rank is above itself
not_above : (o : Option Rank) → is_above o o ≡ false
not_above None = refl
not_above (Some a) = and_right (nat_eq a.core a.core) (nat_lt a.place a.place) (le-ltb a.place a.place (omega arith))

above_both : (o p q : Option Rank) → is_above o p ≡ true → is_above p q ≡ true → is_above o q ≡ true
above_both (Some a) (Some b) (Some c) h k =
    let first = and_parts (nat_eq a.core b.core) (nat_lt a.place b.place) h in
    let second = and_parts (nat_eq b.core c.core) (nat_lt b.place c.place) k in
    let l = ltb-true a.place b.place first.1 in
    let m = ltb-true b.place c.place second.1 in
    and_from (nat_eq a.core c.core) (nat_lt a.place c.place) (eq-eqb a.core c.core (eqb-true a.core b.core first.0 ∙ eqb-true b.core c.core second.0))
    (lt-ltb a.place c.place (omega (arith, l, m)))
above_both None p q h k = cc h
above_both (Some a) None q h k = cc h
above_both (Some a) (Some b) None h k = cc k

-- of two ranks at different places of a core the one is above the other
one_above : (a b : Rank) → a.core ≡ b.core → a.place ≢ b.place → (is_above (Some a) (Some b) ≡ true) ⊎ (is_above (Some b) (Some a) ≡ true)
one_above a b core ne =
    elim (cases_order a.place b.place) [
      | inl e ↦ absurd (ne e)
      | inr (inl l) ↦ inl (and_from (nat_eq a.core b.core) (nat_lt a.place b.place) (eq-eqb a.core b.core core) (lt-ltb a.place b.place l))
      | inr (inr g) ↦ inr (and_from (nat_eq b.core a.core) (nat_lt b.place a.place) (eq-eqb b.core a.core (sym core)) (lt-ltb b.place a.place g))
    ]

module _ (order : List (Option Rank)) where
  pub never_both : (i j : ℕ) → interrupts order i j ≡ true → interrupts order j i ≡ true → ⊥
  never_both i j h k = true≢false (sym (above_both (rank_of order i) (rank_of order j) (rank_of order i) h k) ∙ not_above (rank_of order i))

  total_at : (i j : ℕ) (a b : Rank) → rank_of order i ≡ Some a → rank_of order j ≡ Some b → a.core ≡ b.core → a.place ≢ b.place →
      (interrupts order i j ≡ true) ⊎ (interrupts order j i ≡ true)
  total_at i j a b at_i at_j core ne =
      elim (one_above a b core ne) [
        | inl h ↦ inl (ap (λ (o : Option Rank). is_above o (rank_of order j)) at_i ∙ ap (λ (o : Option Rank). is_above (Some a) o) at_j ∙ h)
        | inr h ↦ inr (ap (λ (o : Option Rank). is_above o (rank_of order i)) at_j ∙ ap (λ (o : Option Rank). is_above (Some b) o) at_i ∙ h)
      ]

  -- a part isn't another one
  pub own_place : (i : ℕ) → may_act order i (i + 1) ≡ false
  own_place i =
      let next : i + 1 - 1 ≡ i = omega arith in
      or_from (nat_eq (i + 1) 0) (not (nat_eq (i + 1 - 1) i) && not (interrupts order i (i + 1 - 1))) (ne_eqb (i + 1) 0 (λ e. absurd (omega (arith, e))))
      (and_left (not (nat_eq (i + 1 - 1) i)) (not (interrupts order i (i + 1 - 1))) (not_from_true (nat_eq (i + 1 - 1) i) (eq-eqb (i + 1 - 1) i next)))

  -- a part acts only as another one
  pub another : (i j : ℕ) → may_act order i j ≡ true → j ≢ i + 1
  another i j may e = true≢false (sym may ∙ ap (λ n. may_act order i n) e ∙ own_place i)

  -- another part may act, unless it is interrupted
  pub acts : (i j : ℕ) → i ≢ j → interrupts order i j ≡ false → may_act order i (j + 1) ≡ true
  acts i j ne still =
      let next : j + 1 - 1 ≡ j = omega arith in
      or_right (nat_eq (j + 1) 0) (not (nat_eq (j + 1 - 1) i) && not (interrupts order i (j + 1 - 1)))
      (and_from (not (nat_eq (j + 1 - 1) i)) (not (interrupts order i (j + 1 - 1)))
      (not_from_false (nat_eq (j + 1 - 1) i) (ne_eqb (j + 1 - 1) i (λ e. ne (sym e ∙ next))))
      (not_from_false (interrupts order i (j + 1 - 1)) (ap (λ n. interrupts order i n) next ∙ still)))

pub orders_are_strict : OrdersAreStrict
orders_are_strict order = record {
  strict = λ i. not_above (rank_of order i);
  orderly = λ i j l. above_both (rank_of order i) (rank_of order j) (rank_of order l);
  total = total_at order;
}
