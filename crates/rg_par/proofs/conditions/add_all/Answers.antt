use Rattle.std.proofs.Common.{[], ◌∷◌, map, rules}
use Rattle.rg_tree.specs.Conditions.{condition_tree}
use Rattle.rg_tree.specs.ProgramView.{specification, part}
use Rattle.rg_tree.specs.RuleConditions.{as_condition, reaches}
use Rattle.rg_par.specs.Parallel.{pre_conditions, rely_conditions, guar_conditions, cross_conditions}
use Rattle.rg_par.proofs.Joined.{six}
use Rattle.rg_par.proofs.conditions.add_all.Goals as goal

pub returns : goal.returns
returns c =
    let spec = specification c.args.program.now.spec in
    let parts = map part c.args.program.now.parts.items in
    six (as_condition c.args.program.now.layout) (map condition_tree c.args.all.now.items) (pre_conditions spec.pre parts) (rely_conditions spec.rely parts) (cross_conditions parts 1 parts) (guar_conditions spec.guar parts) (reaches (map (λ p. p.spec.post) parts) [] spec.post ∷ [])
    (map condition_tree c.add_pres.new.all.items) (map condition_tree c.add_relies.new.all.items) (map condition_tree c.add_crosses.new.all.items) (map condition_tree c.add_guars.new.all.items) (map condition_tree c.add_post.new.all.items)
    (search rules) (search rules) (search rules) (search rules) (search rules)
