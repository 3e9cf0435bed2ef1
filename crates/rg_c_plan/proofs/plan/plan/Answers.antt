use Rattle.std.proofs.Common.{◌≡◌, List, None, sym, subst, rules}
use Rattle.rg_tree.specs.ProgramTrees.{program as program_tree}
use Rattle.rg_c_plan.specs.declared.kind.Kind.{Kind}
use Rattle.rg_c_plan.specs.Kinds.{kinds_of, unplanned}
use Rattle.rg_c_plan.specs.Sound.{IsSound}
use Rattle.rg_c_plan.proofs.Checked.{chosen_sound}
use Rattle.rg_c_plan.proofs.plan.plan.Goals as goal

pub returns-clause-sound : goal.returns-clause-sound
returns-clause-sound c =
    let p = program_tree c.args.program.now in
    let apart = c.args.apart.now in
    let order = c.args.order.now in
    let none : unplanned p order apart ≡ None = search rules in
    let all : c.in_ok-kinds.kinds.items ≡ kinds_of p order apart = search rules in
    subst (λ (kinds : List Kind). IsSound kinds order p) (sym all) (chosen_sound p order apart none)
