-- The rule for parallel parts, after Xu, de Roever and He: its conditions, and what they promise.
use Rattle.std.specs.Prelude.{ℕ, suc, List, [], ◌∷◌, ◌++◌, ◌==◌, if◌then◌else◌, map}
use Rattle.rg_tree.specs.Trees.{Proposition}
use Rattle.rg_tree.specs.Statements.{Specification, PartTree, ProgramTree}
use Rattle.rg_tree.specs.Programs.{IsSatisfied, PartsSatisfy}
use Rattle.rg_tree.specs.RuleConditions.{RuleCondition, reaches, allows, AllMet}

-- the pre gives each part's pre
abbrev pub pre_conditions : Proposition → List PartTree → List RuleCondition
pre_conditions pre [] = []
pre_conditions pre (p ∷ ps) = reaches (pre ∷ []) [] p.spec.pre ∷ pre_conditions pre ps

-- the rely gives each part's rely
abbrev pub rely_conditions : Proposition → List PartTree → List RuleCondition
rely_conditions rely [] = []
rely_conditions rely (p ∷ ps) = allows rely p.spec.rely ∷ rely_conditions rely ps

-- each part's guarantee gives the guarantee
abbrev pub guar_conditions : Proposition → List PartTree → List RuleCondition
guar_conditions guar [] = []
guar_conditions guar (p ∷ ps) = allows p.spec.guar guar ∷ guar_conditions guar ps

-- the guarantees of the parts, numbered from j, but of part i, give this rely
abbrev pub other_conditions : ℕ → Proposition → ℕ → List PartTree → List RuleCondition
other_conditions i rely j [] = []
other_conditions i rely j (p ∷ ps) =
    (if i == j then [] else allows p.spec.guar rely ∷ []) ++ other_conditions i rely (suc j) ps

-- for each part, numbered from i, the guarantees of all others
abbrev pub cross_conditions : List PartTree → ℕ → List PartTree → List RuleCondition
cross_conditions all i [] = []
cross_conditions all i (p ∷ ps) = other_conditions i p.spec.rely 1 all ++ cross_conditions all (suc i) ps

-- all of them in order, and last that the posts together give the post
abbrev pub parallel_conditions : Specification → List PartTree → List RuleCondition
parallel_conditions spec parts =
    pre_conditions spec.pre parts
    ++ rely_conditions spec.rely parts
    ++ cross_conditions parts 1 parts
    ++ guar_conditions spec.guar parts
    ++ reaches (map (λ p. p.spec.post) parts) [] spec.post ∷ []

-- where each part satisfies its own specification and the rule's conditions are met, the program satisfies its specification
abbrev pub ParallelRule : Type 0
ParallelRule = (program : ProgramTree) → PartsSatisfy program → AllMet program.words (parallel_conditions program.spec program.parts) → IsSatisfied program
