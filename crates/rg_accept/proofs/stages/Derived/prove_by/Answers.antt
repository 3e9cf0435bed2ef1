use Rattle.std.proofs.Common.{List, map, rules, subst}
use Rattle.std.proofs.lemmas.Grind.{merely}
use Rattle.rg_tree.specs.ConditionTrees.{ConditionTree}
use Rattle.rg_tree.specs.Conditions.{condition_tree}
use Rattle.rg_tree.specs.RuleConditions.{AllConditionsHold}
use Rattle.rg_hints.specs.Proved.{IsProofsRefusal}
use Rattle.rg_accept.proofs.Asked.{proved_by}
use Rattle.rg_accept.proofs.stages.Derived.prove_by.Goals as goal

pub returns-in-Err-clause-refused : goal.returns-in-Err-clause-refused
returns-in-Err-clause-refused g c =
    subst (λ (cs : List ConditionTree). IsProofsRefusal cs c.args.proofs.now c.in-Err.refusal) (search rules) c.in-Err.ensures.refused

pub invariant_of-result : goal.invariant_of-result
invariant_of-result g c =
    let held : AllConditionsHold (map condition_tree c.in_ok-conditions.conditions.items) = search rules in
    record {
      proved = proved_by _ _ c.args.self.typed c.args.self.derives (subst (λ (cs : List ConditionTree). AllConditionsHold cs) c.in_ok-conditions.ensures.list held);
      satisfied = merely (c.in_ok-conditions.ensures.sound held);
    }
