use Rattle.std.proofs.Common.{◌∙◌, ap, sym, List, length}
use Rattle.std.proofs.lemmas.List.{length-map}
use Rattle.rg_tree.specs.ConditionTrees.{ConditionTree}
use Rattle.rg_tree.specs.Conditions.{condition_tree}
use Rattle.rgc_outlines.proofs.proved.Proved.counts.Goals as goal

pub returns : goal.returns
returns c =
    c.len.ensures
    ∙ c.in_ok-conditions.conditions.ok.0
    ∙ sym (length-map c.in_ok-conditions.conditions.items condition_tree)
    ∙ ap (λ (cs : List ConditionTree). length cs) c.in_ok-conditions.ensures.list
