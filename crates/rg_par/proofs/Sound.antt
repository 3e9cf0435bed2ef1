-- Where the conditions are true and each part satisfies its specification, the program satisfies its own.
use Rattle.std.proofs.Common.{ℕ, suc, Bool, true, false, List, [], ◌∷◌, ◌++◌, map}
use Rattle.std.specs.Prelude.{◌==◌, if◌then◌else◌}
use Rattle.rg_tree.specs.Trees.{Proposition}
use Rattle.rg_tree.specs.Statements.{Specification, PartTree, ProgramTree}
use Rattle.rg_tree.specs.Programs.{IsSatisfied, PartsSatisfy}
use Rattle.rg_tree.specs.RuleConditions.{reaches, allows, as_condition, AllConditionsHold}
use Rattle.rg_tree.proofs.Asked.{all_met, plain_append, ArePlain}
use Rattle.rg_par.specs.Parallel.{pre_conditions, rely_conditions, guar_conditions, other_conditions, cross_conditions, parallel_conditions}
use Rattle.rg_par.proofs.Parallel.{parallel_rule}

pre_plain : (f : Proposition) (ps : List PartTree) → ArePlain (pre_conditions f ps)
pre_plain f [] = tt
pre_plain f (p ∷ ps) = (tt, pre_plain f ps)

rely_plain : (f : Proposition) (ps : List PartTree) → ArePlain (rely_conditions f ps)
rely_plain f [] = tt
rely_plain f (p ∷ ps) = (tt, rely_plain f ps)

guar_plain : (f : Proposition) (ps : List PartTree) → ArePlain (guar_conditions f ps)
guar_plain f [] = tt
guar_plain f (p ∷ ps) = (tt, guar_plain f ps)

one_plain : (b : Bool) (f g : Proposition) → ArePlain (if b then [] else allows f g ∷ [])
one_plain true f g = tt
one_plain false f g = (tt, tt)

other_plain : (i : ℕ) (f : Proposition) (j : ℕ) (ps : List PartTree) → ArePlain (other_conditions i f j ps)
other_plain i f j [] = tt
other_plain i f j (p ∷ ps) =
    plain_append (if i == j then [] else allows p.spec.guar f ∷ []) (other_conditions i f (suc j) ps) (one_plain (i == j) p.spec.guar f) (other_plain i f (suc j) ps)

cross_plain : (all : List PartTree) (i : ℕ) (ps : List PartTree) → ArePlain (cross_conditions all i ps)
cross_plain all i [] = tt
cross_plain all i (p ∷ ps) =
    plain_append (other_conditions i p.spec.rely 1 all) (cross_conditions all (suc i) ps) (other_plain i p.spec.rely 1 all) (cross_plain all (suc i) ps)

pub parallel_plain : (spec : Specification) (parts : List PartTree) → ArePlain (parallel_conditions spec parts)
parallel_plain spec parts =
    let a = pre_conditions spec.pre parts in
    let b = rely_conditions spec.rely parts in
    let c = cross_conditions parts 1 parts in
    let d = guar_conditions spec.guar parts in
    plain_append (((a ++ b) ++ c) ++ d) (reaches (map (λ p. p.spec.post) parts) [] spec.post ∷ [])
    (plain_append ((a ++ b) ++ c) d (plain_append (a ++ b) c (plain_append a b (pre_plain spec.pre parts) (rely_plain spec.rely parts)) (cross_plain parts 1 parts)) (guar_plain spec.guar parts)) (tt, tt)

pub conditions_sound : (program : ProgramTree) → AllConditionsHold (map (as_condition program.words) (parallel_conditions program.spec program.parts)) → PartsSatisfy program → IsSatisfied program
conditions_sound program h satisfy =
    parallel_rule program satisfy (all_met program.words (parallel_conditions program.spec program.parts) (parallel_plain program.spec program.parts) h)
