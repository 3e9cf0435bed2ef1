-- There are as many names as conditions.
use Rattle.std.proofs.Common.{◌≡◌, ℕ, suc, ◌+◌, Bool, true, false, List, [], ◌∷◌, ◌++◌, length, map, refl, ap, ap₂, sym, ◌∙◌, length-append}
use Rattle.std.specs.Prelude.{◌==◌, if◌then◌else◌, codes}
use Rattle.rg_tree.specs.Trees.{Proposition}
use Rattle.rg_tree.specs.Statements.{Specification, PartTree}
use Rattle.rg_tree.specs.RuleConditions.{RuleCondition, allows}
use Rattle.rg_par.specs.Parallel.{pre_conditions, rely_conditions, guar_conditions, other_conditions, cross_conditions, parallel_conditions}
use Rattle.rg_par.specs.Names.{of_part, of_two, other_names, cross_names, parallel_names}

-- lists joined of parts of the same lengths
joined : {A B : Type 0} (a b : List A) (c d : List B) → length a ≡ length c → length b ≡ length d → length (a ++ b) ≡ length (c ++ d)
joined a b c d p q = length-append a b ∙ ap₂ (λ (x y : ℕ). x + y) p q ∙ sym (length-append c d)

pre_count : (start : List ℕ) (f : Proposition) (ps : List PartTree) → length (map (of_part start) ps) ≡ length (pre_conditions f ps)
pre_count start f [] = refl
pre_count start f (p ∷ ps) = ap suc (pre_count start f ps)

rely_count : (start : List ℕ) (f : Proposition) (ps : List PartTree) → length (map (of_part start) ps) ≡ length (rely_conditions f ps)
rely_count start f [] = refl
rely_count start f (p ∷ ps) = ap suc (rely_count start f ps)

guar_count : (start : List ℕ) (f : Proposition) (ps : List PartTree) → length (map (of_part start) ps) ≡ length (guar_conditions f ps)
guar_count start f [] = refl
guar_count start f (p ∷ ps) = ap suc (guar_count start f ps)

one_count : (b : Bool) (name : List ℕ) (o : RuleCondition) → length (if b then [] else name ∷ []) ≡ length (if b then [] else o ∷ [])
one_count true name o = refl
one_count false name o = refl

other_count : (i : ℕ) (p : PartTree) (j : ℕ) (ps : List PartTree) → length (other_names i p j ps) ≡ length (other_conditions i p.spec.rely j ps)
other_count i p j [] = refl
other_count i p j (q ∷ qs) =
    joined (if i == j then [] else of_two q p ∷ []) (other_names i p (suc j) qs) (if i == j then [] else allows q.spec.guar p.spec.rely ∷ []) (other_conditions i p.spec.rely (suc j) qs) (one_count (i == j) (of_two q p) (allows q.spec.guar p.spec.rely)) (other_count i p (suc j) qs)

cross_count : (all : List PartTree) (i : ℕ) (ps : List PartTree) → length (cross_names all i ps) ≡ length (cross_conditions all i ps)
cross_count all i [] = refl
cross_count all i (p ∷ ps) =
    joined (other_names i p 1 all) (cross_names all (suc i) ps) (other_conditions i p.spec.rely 1 all) (cross_conditions all (suc i) ps) (other_count i p 1 all) (cross_count all (suc i) ps)

pub name_count : (spec : Specification) (parts : List PartTree) → length (parallel_names parts) ≡ length (parallel_conditions spec parts)
name_count spec parts =
    let pre = pre_count (codes "all pre ") spec.pre parts in
    let rely = rely_count (codes "all rely ") spec.rely parts in
    let cross = cross_count parts 1 parts in
    let guar = guar_count (codes "all guar ") spec.guar parts in
    joined _ _ _ _ (joined _ _ _ _ (joined _ _ _ _ (joined _ _ _ _ pre rely) cross) guar) refl
