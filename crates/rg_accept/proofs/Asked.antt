-- What the conditions of a derivation give together.
use Rattle.std.proofs.Common.{◌≡◌, ℕ, ◌+◌, ◌<◌, List, [], ◌∷◌, ◌++◌, length, map, subst, sym, arith}
use Rattle.std.proofs.Math.Logic.{∥∥₁_map}
use Rattle.std.proofs.lemmas.List.{length-append, length-map}
use Rattle.rg_tree.specs.ConditionTrees.{ConditionTree}
use Rattle.rg_tree.specs.Lines.{LineTree, AreTypedLines}
use Rattle.rg_tree.specs.Numbering.{statements_of_parts}
use Rattle.rg_tree.specs.Statements.{ProgramTree}
use Rattle.rg_tree.specs.Programs.{IsSatisfied, PartsSatisfy}
use Rattle.rg_tree.specs.RuleConditions.{as_condition, reaches, AllConditionsHold}
use Rattle.rg_rules.specs.Derivations.{conditions_asked}
use Rattle.rg_rules.specs.Faults.{Derives}
use Rattle.rg_par.specs.Parallel.{pre_conditions, rely_conditions, cross_conditions, guar_conditions, parallel_conditions}
use Rattle.rg_par.proofs.Sound.{conditions_sound}
use Rattle.rg_accept.specs.Accepted.{asked_of, conditions_of, IsProvedBy}

-- of conditions that all hold, those in front hold, and those after
hold_in_front : (cs ds : List ConditionTree) → AllConditionsHold (cs ++ ds) → AllConditionsHold cs
hold_in_front [] ds h = tt
hold_in_front (c ∷ cs) ds h = (h.0, hold_in_front cs ds h.1)

hold_after : (cs ds : List ConditionTree) → AllConditionsHold (cs ++ ds) → AllConditionsHold ds
hold_after [] ds h = h
hold_after (c ∷ cs) ds h = hold_after cs ds h.1

-- where the conditions of the lines and the parallel ones hold, the program satisfies its specification
pub all_sound : (p : ProgramTree) (first all : List ConditionTree) → all ≡ first ++ map (as_condition p.words) (parallel_conditions p.spec p.parts) → (AllConditionsHold first → PartsSatisfy p) → AllConditionsHold all → IsSatisfied p
all_sound p first all is parts h =
    let split = subst (λ (cs : List ConditionTree). AllConditionsHold cs) is h in
    conditions_sound p (hold_after first (map (as_condition p.words) (parallel_conditions p.spec p.parts)) split) (parts (hold_in_front first (map (as_condition p.words) (parallel_conditions p.spec p.parts)) split))

-- there is a condition: that of the post
nonempty-append : {X : Type 0} (xs ys : List X) → 0 < length ys → 0 < length (xs ++ ys)
nonempty-append xs ys some = omega (arith, length-append xs ys, some)

pub some_condition : (p : ProgramTree) (lines : List LineTree) → 0 < length (conditions_of p lines)
some_condition p lines =
    let others = pre_conditions p.spec.pre p.parts ++ rely_conditions p.spec.rely p.parts ++ cross_conditions p.parts 1 p.parts ++ guar_conditions p.spec.guar p.parts in
    let parallel = nonempty-append others (reaches (map (λ p. p.spec.post) p.parts) [] p.spec.post ∷ []) (omega arith) in
    let some = nonempty-append (conditions_asked (statements_of_parts p.parts) lines lines) (parallel_conditions p.spec p.parts) parallel in
    subst (λ (n : ℕ). 0 < n) (sym (length-map (asked_of p lines) (as_condition p.words))) some

-- typed lines that derive the parts prove a program, where their conditions are true
pub proved_by : (p : ProgramTree) (lines : List LineTree) → AreTypedLines p.words lines → ∥ Derives p.parts lines ∥₁ → AllConditionsHold (conditions_of p lines) → ∥ IsProvedBy p lines ∥₁
proved_by p lines typed derives hold = ∥∥₁_map derives (λ d. record { typed = typed; derives = d; hold = hold })
