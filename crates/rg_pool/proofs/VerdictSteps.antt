-- from what is reported of each condition to what is reported of all
use Rattle.std.proofs.Common.{◌≡◌, ℕ, ◌+◌, ◌<◌, zero, suc, List, [], ◌∷◌, length, get_or, inl, inr, ⊎_elim, subst, sym, arith}
use Rattle.std.proofs.lemmas.Bool.Decides.{eqb_tells}
use Rattle.rg_words.specs.declared.refusal.Refusal.{Refusal}
use Rattle.rg_tree.specs.ConditionTrees.{ConditionTree}
use Rattle.rg_tree.specs.Conditions.{ConditionHolds}
use Rattle.rg_tree.specs.RuleConditions.{AllConditionsHold}
use Rattle.rg_hints.specs.Sections.{SectionText}
use Rattle.rg_hints.specs.Proved.{section_for, IsProvedBy, AllProvedFrom, IsConditionRefusal, IsFirstRefusal}

-- the condition at this place, from 0, is proved, where so many conditions stand before the first
abbrev pub IsProvedAt : List SectionText → ℕ → List ConditionTree → ℕ → Type 0
IsProvedAt sections before cs i = (d : ConditionTree) → IsProvedBy (section_for sections (before + i + 1)) (get_or cs i d)

-- some condition of a list that has one
pub some_condition : (cs : List ConditionTree) (n : ℕ) → n < length cs → ConditionTree
some_condition [] n small = absurd (omega (arith, small))
some_condition (c ∷ cs) n small = c

-- what holds below a number and at it holds below the next
pub below_next : (P : ℕ → Type 0) (n : ℕ) → ((i : ℕ) → i < n → P i) → P n → (i : ℕ) → i < n + 1 → P i
below_next P n below here i small = ⊎_elim (λ same. subst P (sym same.1) here) (λ other. below i (omega (arith, other.1, small))) (eqb_tells i n)

module _ (sections : List SectionText) where
  moved : (m n : ℕ) (c : ConditionTree) → m ≡ n → IsProvedBy (section_for sections m) c → IsProvedBy (section_for sections n) c
  moved m n c e p = subst (λ (k : ℕ). IsProvedBy (section_for sections k) c) e p

  -- each is proved, so all are
  pub all_from_each : (before : ℕ) (cs : List ConditionTree) → ((i : ℕ) → i < length cs → IsProvedAt sections before cs i) → AllProvedFrom sections (before + 1) cs
  all_from_each before [] each = tt
  all_from_each before (c ∷ cs) each = (
    moved (before + 0 + 1) (before + 1) c (omega arith) (each 0 (omega arith) c),
    all_from_each (before + 1) cs (λ i small d. moved (before + suc i + 1) (before + 1 + i + 1) (get_or cs i d) (omega arith) (each (suc i) (omega (arith, small)) d)),
  )

  -- all are proved, so each is
  pub each_from_all : (before : ℕ) (cs : List ConditionTree) → AllProvedFrom sections (before + 1) cs → (i : ℕ) → i < length cs → IsProvedAt sections before cs i
  each_from_all before [] all i small d = absurd (omega (arith, small))
  each_from_all before (c ∷ cs) all zero small d = moved (before + 1) (before + 0 + 1) c (omega arith) all.0
  each_from_all before (c ∷ cs) all (suc i) small d = moved (before + 1 + i + 1) (before + suc i + 1) (get_or cs i d) (omega arith) (each_from_all (before + 1) cs all.1 i (omega (arith, small)) d)

  -- the first that is refused
  pub first_refused_at : (before : ℕ) (cs : List ConditionTree) (e : Refusal) (n : ℕ) → n < length cs → ((i : ℕ) → i < n → IsProvedAt sections before cs i)
      → ((d : ConditionTree) → IsConditionRefusal (section_for sections (before + n + 1)) (before + n + 1) (get_or cs n d) e) → IsFirstRefusal sections (before + 1) cs e
  first_refused_at before [] e n small proved refused = absurd (omega (arith, small))
  first_refused_at before (c ∷ cs) e zero small proved refused =
      let same : before + 0 + 1 ≡ before + 1 = omega arith in
      inl (subst (λ (m : ℕ). IsConditionRefusal (section_for sections m) m c e) same (refused c))
  first_refused_at before (c ∷ cs) e (suc n) small proved refused =
      let same : before + suc n + 1 ≡ before + 1 + n + 1 = omega arith in
      inr (
        moved (before + 0 + 1) (before + 1) c (omega arith) (proved 0 (omega arith) c),
        first_refused_at (before + 1) cs e n (omega (arith, small))
            (λ i less d. moved (before + suc i + 1) (before + 1 + i + 1) (get_or cs i d) (omega arith) (proved (suc i) (omega (arith, less)) d))
            (λ d. subst (λ (m : ℕ). IsConditionRefusal (section_for sections m) m (get_or cs n d) e) same (refused d)),
      )

-- each is true, so all are
pub all_hold : (cs : List ConditionTree) → ((i : ℕ) → i < length cs → (d : ConditionTree) → ConditionHolds (get_or cs i d)) → AllConditionsHold cs
all_hold [] each = tt
all_hold (c ∷ cs) each = (each 0 (omega arith) c, all_hold cs (λ i small d. each (suc i) (omega (arith, small)) d))
