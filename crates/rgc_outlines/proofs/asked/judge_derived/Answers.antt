use Rattle.std.proofs.Common.{◌≡◌, ◌∙◌, List, map, ap, subst, inr}
use Rattle.rg_tree.specs.ConditionTrees.{ConditionTree}
use Rattle.rg_tree.specs.Conditions.{condition_tree}
use Rattle.rg_tree.specs.declared.condition.Condition.{Condition}
use Rattle.rg_accept.specs.Accepted.{conditions_of}
use Rattle.rg_accept.specs.Stages.{derived_program, derived_lines}
use Rattle.rgc_outlines.specs.ChallengeUnproved.{IsUnjudged}
use Rattle.rgc_outlines.proofs.asked.judge_derived.Goals as goal

pub returns : goal.returns
returns g c =
    let asked = conditions_of (derived_program c.args.derived.now) (derived_lines c.args.derived.now) in
    let same : map condition_tree c.deref.result.now ≡ asked = ap (λ (xs : List Condition). map condition_tree xs) c.deref.ensures.value ∙ c.in_ok-conditions.ensures.list in
    inr (subst (λ (cs : List ConditionTree). IsUnjudged cs c.args.steps c.in-Err.refusal) same c.in-Err.ensures)
