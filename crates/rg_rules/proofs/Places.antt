-- Where the statements inside a statement stand in the list of all.
use Rattle.std.proofs.Common.{◌≡◌, ℕ, zero, suc, List, [], ◌∷◌, ◌++◌, Some, refl, sym, subst, ap, ◌∙◌, ⊎_elim}
use Rattle.std.proofs.lemmas.List.{append-nil}
use Rattle.std.specs.Prelude.{slice_get}
use Rattle.rg_tree.proofs.Stands.{Stands, stands_more, stands_after, get_append}
use Rattle.rg_tree.specs.Statements.{Statement, skip, assign, await, sequence, branch, loop, Items, one, more, PartTree}
use Rattle.rg_tree.specs.Numbering.{statements, statements_of_items, statements_of_parts}

-- with each statement stand those inside it
abbrev Closed : List Statement → Type 0
Closed xs = (n : ℕ) (s : Statement) → slice_get xs n ≡ Some s → Stands xs n (statements s)

closed_append : (xs ys : List Statement) → Closed xs → Closed ys → Closed (xs ++ ys)
closed_append xs ys cx cy n s h =
    ⊎_elim (λ l. stands_more xs ys n (statements s) (cx n s l)) (λ r. subst (λ k. Stands (xs ++ ys) k (statements s)) r.1 (stands_after xs ys r.0 (statements s) (cy r.0 s r.2))) (get_append xs ys n s h)

closed_cons : (s : Statement) (xs : List Statement) → statements s ≡ s ∷ xs → Closed xs → Closed (s ∷ xs)
closed_cons s xs e c zero s' h =
    let same : s ≡ s' = cc h in
    ([], sym e ∙ ap statements same ∙ sym (append-nil (statements s')))
closed_cons s xs e c (suc n) s' h = c n s' h

closed_nil : Closed []
closed_nil n s h = cc

mutual
  closed : (s : Statement) → Closed (statements s)
  closed (skip row) = closed_cons (skip row) [] refl closed_nil
  closed (assign row a) = closed_cons (assign row a) [] refl closed_nil
  closed (await row b as') = closed_cons (await row b as') [] refl closed_nil
  closed (sequence row s items) = closed_cons (sequence row s items) _ refl (closed_append (statements s) (statements_of_items items) (closed s) (closed_items items))
  closed (branch row b s t) = closed_cons (branch row b s t) _ refl (closed_append (statements s) (statements t) (closed s) (closed t))
  closed (loop row b s) = closed_cons (loop row b s) _ refl (closed s)

  closed_items : (items : Items) → Closed (statements_of_items items)
  closed_items (one s) = closed s
  closed_items (more s items) = closed_append (statements s) (statements_of_items items) (closed s) (closed_items items)

pub closed_parts : (parts : List PartTree) → Closed (statements_of_parts parts)
closed_parts [] = closed_nil
closed_parts (p ∷ ps) = closed_append (statements p.body) (statements_of_parts ps) (closed p.body) (closed_parts ps)
