-- The sizes of all statements, by number, are those of the statements inside each.
use Rattle.std.proofs.Common.{◌≡◌, ℕ, zero, suc, ◌+◌, List, [], ◌∷◌, length, map, Some, refl, ap, subst, ◌∙◌, arith}
use Rattle.std.specs.Prelude.{slice_get}
use Rattle.std.specs.Option.{option_map}
use Rattle.std.specs.List.{All}
use Rattle.std.proofs.lemmas.List.Elements.{All-nil, All-cons}
use Rattle.std.proofs.lemmas.Option.{slice_get-map}
use Rattle.rg_tree.specs.Statements.{Statement, skip, assign, await, sequence, branch, loop, Items, one, more, PartTree}
use Rattle.rg_tree.specs.Numbering.{statements, statements_of_items, statements_of_parts}
use Rattle.rg_tree.specs.Programs.{nth}
use Rattle.rg_tree.proofs.Stands.{Stands, stands_get, stands_tail, stands_front, stands_back}
use Rattle.rg_rules.specs.Inner.Sizes.{AreSized, IsSizedInside}
use Rattle.rg_rules.proofs.Places.{closed_parts}

abbrev sizes_of : List Statement → List ℕ
sizes_of all = map (λ s. length (statements s)) all

head_of : (s : Statement) → (rest : List Statement) × (statements s ≡ s ∷ rest)
head_of (skip row) = ([], refl)
head_of (assign row a) = ([], refl)
head_of (await row b act) = ([], refl)
head_of (sequence row s items) = (_, refl)
head_of (branch row b s t) = (_, refl)
head_of (loop row b s) = (_, refl)

size_here : (all : List Statement) (m : ℕ) (s : Statement) → Stands all m (statements s) → slice_get (sizes_of all) m ≡ Some (length (statements s))
size_here all m s st =
    let top = head_of s in
    slice_get-map (λ s. length (statements s)) all m ∙ ap (option_map (λ s. length (statements s))) (stands_get all m s top.0 (subst (Stands all m) top.1 st))

items_sized : (all : List Statement) (m : ℕ) (items : Items) → Stands all m (statements_of_items items) → AreSized (sizes_of all) (suc m) items
items_sized all m (one s) st = tt
items_sized all m (more s items) st =
    let next : suc (m + length (statements s)) ≡ suc m + length (statements s) = omega arith in
    (size_here all m s (stands_front all m (statements s) _ st), subst (λ n. AreSized (sizes_of all) n items) next (items_sized all (m + length (statements s)) items (stands_back all m (statements s) _ st)))

inside : (all : List Statement) (m : ℕ) (s : Statement) → Stands all m (statements s) → IsSizedInside (sizes_of all) (suc m) s
inside all m (skip row) st = tt
inside all m (assign row a) st = tt
inside all m (await row b act) st = tt
inside all m (sequence row s items) st =
    let next : suc (suc m) ≡ suc m + 1 = omega arith in
    subst (λ n. AreSized (sizes_of all) n (more s items)) next (items_sized all (suc m) (more s items) (stands_tail all m _ _ st))
inside all m (branch row b s t) st =
    let next : suc (suc m) ≡ suc m + 1 = omega arith in
    subst (λ n. nth (sizes_of all) n ≡ Some (length (statements s))) next (size_here all (suc m) s (stands_front all (suc m) (statements s) _ (stands_tail all m _ _ st)))
inside all m (loop row b s) st = tt

pub sized_inside : (parts : List PartTree) (n : ℕ) (s : Statement) → nth (statements_of_parts parts) n ≡ Some s → IsSizedInside (sizes_of (statements_of_parts parts)) n s
sized_inside parts zero s h = cc h
sized_inside parts (suc n) s h = inside (statements_of_parts parts) n s (closed_parts parts n s h)

-- what holds of what stands at each number holds of all
pub all_numbered : {X Y : Type 0} (f : X → Y) (P : Y → Type 0) (xs : List X) → ((n : ℕ) (y : Y) → nth (map f xs) n ≡ Some y → P y) → All (λ x. P (f x)) xs
all_numbered f P [] h = All-nil (λ y. P (f y))
all_numbered {X} {Y} f P (x ∷ xs) h = All-cons (λ y. P (f y)) x xs (h 1 (f x) refl) (all_numbered f P xs later)
  where
    later : (n : ℕ) (y : Y) → nth (map f xs) n ≡ Some y → P y
    later zero y e = cc e
    later (suc n) y e = h (suc (suc n)) y e
