-- Where assignments access a word, from the last one on.
use Rattle.std.proofs.Common.{◌≡◌, ◌∙◌, ℕ, ◌+◌, ◌-◌, ◌<◌, Bool, true, false, cond, List, ◌∷◌, map, length, drop, get_or, Option, ap, sym, arith}
use Rattle.std.proofs.lemmas.List.{drop_more}
use Rattle.rg_tree.specs.Trees.{Proposition}
use Rattle.rg_tree.specs.ConditionTrees.{assignment}
use Rattle.rg_tree.specs.declared.condition.Assign.{Assign}
use Rattle.rg_c_plan.specs.Changes.{moves, moving}
use Rattle.rg_c_plan.specs.Where.{either, change_where, freed, changes_where}

-- one assignment more in front of the last ones
one_more : (act : List Assign) (i : ℕ) (a : Assign) → i < length act → get_or act (length act - 1 - i) a ≡ a → drop (length act - (i + 1)) act ≡ a ∷ drop (length act - i) act
one_more act i a less is =
    let place : length act - (i + 1) ≡ length act - 1 - i = omega (arith, less) in
    let next : length act - 1 - i + 1 ≡ length act - i = omega (arith, less) in
    ap (λ n. drop n act) place ∙ drop_more act (length act - 1 - i) a (omega (arith, less)) ∙ ap (λ (x : Assign). x ∷ drop (length act - 1 - i + 1) act) is ∙ ap (λ n. a ∷ drop n act) next

module _ (k : ℕ) (act : List Assign) (i : ℕ) (a : Assign) (less : i < length act) (is : get_or act (length act - 1 - i) a ≡ a) where
  -- where the last ones access the word, before and with this one
  abbrev of_last : ℕ → Option Proposition
  of_last n = changes_where k (moving (map assignment (drop (length act - n) act)))

  with_one : (b : Bool) → moves (assignment a) ≡ b → of_last (i + 1) ≡ changes_where k (cond b (assignment a ∷ moving (map assignment (drop (length act - i) act))) (moving (map assignment (drop (length act - i) act))))
  with_one b e =
      ap (λ (xs : List Assign). changes_where k (moving (map assignment xs))) (one_more act i a less is)
      ∙ ap (λ c. changes_where k (cond c (assignment a ∷ moving (map assignment (drop (length act - i) act))) (moving (map assignment (drop (length act - i) act))))) e

  pub changes_more : (before after : Option Proposition) → moves (assignment a) ≡ true → before ≡ of_last i → after ≡ either (change_where k (assignment a)) (freed a.word before) → after ≡ of_last (i + 1)
  changes_more before after e so_far made = made ∙ ap (λ (o : Option Proposition). either (change_where k (assignment a)) (freed a.word o)) so_far ∙ sym (with_one true e)

  pub changes_same : (before after : Option Proposition) → moves (assignment a) ≡ false → before ≡ of_last i → after ≡ before → after ≡ of_last (i + 1)
  changes_same before after e so_far made = made ∙ so_far ∙ sym (with_one false e)
