use Rattle.std.proofs.Common.{ap, ◌∙◌}
use Rattle.rg_tree.specs.ProgramTrees.{program}
use Rattle.rg_floor.specs.History.{steps_by}
use Rattle.rg_floor.specs.Inner.Counts.{made_by}
use Rattle.rg_floor.proofs.Histories.{made-rebuilt}
use Rattle.rg_floor.proofs.closed.Closed.steps_of.Goals as goal

pub returns : goal.returns
returns c =
    let old = c.self.inside in
    c.count_by.ensures ∙ ap (made_by c.args.part) c.deref.ensures.value ∙ made-rebuilt (program old.program.now) 0 c.args.part old.start.values old.changes.items
    ∙ ap (λ x. steps_by c.args.part x.history) c.self.view_is
