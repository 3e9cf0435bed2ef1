use Rattle.std.proofs.Common.{◌≡◌, ◌∙◌, ℕ, List, length, map, ap, rules, subst, sym}
use Rattle.std.proofs.lemmas.Grind.{merely}
use Rattle.std.proofs.lemmas.List.{length-map}
use Rattle.rg_tree.specs.ConditionTrees.{ConditionTree}
use Rattle.rg_tree.specs.Conditions.{condition_tree}
use Rattle.rg_tree.specs.declared.condition.Condition.{Condition}
use Rattle.rg_tree.specs.RuleConditions.{AllConditionsHold}
use Rattle.rg_pool.specs.ProofPieces.{ArePartRefused}
use Rattle.rg_accept.specs.Accepted.{conditions_of}
use Rattle.rg_accept.specs.Stages.{derived_program, derived_lines}
use Rattle.rg_accept.proofs.Asked.{proved_by}
use Rattle.rg_accept.proofs.stages.Derived.prove_pieces.Goals as goal

pub returns-in-Err-clause-refused : goal.returns-in-Err-clause-refused
returns-in-Err-clause-refused g c =
    let all = c.as_slice-all.result.now in
    let asked = conditions_of (derived_program c.args.self) (derived_lines c.args.self) in
    let pieces = map (λ piece. piece.now) c.args.proofs.now in
    let same : map condition_tree all ≡ asked = ap (λ (xs : List Condition). map condition_tree xs) c.as_slice-all.ensures.value ∙ c.in_ok-conditions.ensures.list in
    let count : length all ≡ length asked = sym (length-map all condition_tree) ∙ ap (λ (cs : List ConditionTree). length cs) same in
    subst (λ (n : ℕ). ArePartRefused n 0 asked pieces c.in-Err.refusal) count
    (subst (λ (cs : List ConditionTree). ArePartRefused (length all) 0 cs pieces c.in-Err.refusal) same c.in-Err.ensures.refused)

pub invariant_of-result : goal.invariant_of-result
invariant_of-result g c =
    let held : AllConditionsHold (map condition_tree c.in_ok-conditions.conditions.items) = search rules in
    record {
      proved = proved_by _ _ c.args.self.typed c.args.self.derives (subst (λ (cs : List ConditionTree). AllConditionsHold cs) c.in_ok-conditions.ensures.list held);
      satisfied = merely (c.in_ok-conditions.ensures.sound held);
    }
