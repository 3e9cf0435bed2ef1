use Rattle.rg_tree.proofs.rule_conditions.reaches.Goals as goal

pub invariant_of-result : goal.invariant_of-result
invariant_of-result c = record {
  fits = c.typed_trees_fit.ensures.conditions _ c.facts.ensures.layout c.requires;
  typed = c.requires;
}
