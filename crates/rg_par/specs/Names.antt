-- The printed names of the conditions of the parallel rule.
use Rattle.std.specs.Prelude.{ℕ, suc, List, [], ◌∷◌, ◌++◌, ◌==◌, if◌then◌else◌, map, codes}
use Rattle.rg_tree.specs.Statements.{PartTree}

-- a name that speaks of a part, as `all pre a`
abbrev pub of_part : List ℕ → PartTree → List ℕ
of_part start p = start ++ p.name

-- that a part's guarantee gives another's rely, as `all guar b rely a`
abbrev pub of_two : PartTree → PartTree → List ℕ
of_two other p = codes "all guar " ++ (other.name ++ (codes " rely " ++ p.name))

-- for part i, that the guarantees of all others, numbered from j, give its rely
abbrev pub other_names : ℕ → PartTree → ℕ → List PartTree → List (List ℕ)
other_names i p j [] = []
other_names i p j (q ∷ qs) = (if i == j then [] else of_two q p ∷ []) ++ other_names i p (suc j) qs

-- the same for each part, numbered from i
abbrev pub cross_names : List PartTree → ℕ → List PartTree → List (List ℕ)
cross_names all i [] = []
cross_names all i (p ∷ ps) = other_names i p 1 all ++ cross_names all (suc i) ps

-- the names of all conditions, in their order
abbrev pub parallel_names : List PartTree → List (List ℕ)
parallel_names parts =
    map (of_part (codes "all pre ")) parts
    ++ map (of_part (codes "all rely ")) parts
    ++ cross_names parts 1 parts
    ++ map (of_part (codes "all guar ")) parts
    ++ codes "all post" ∷ []
