use Rattle.std.proofs.Common.{ap, length, arith}
use Rattle.rg_tree.specs.ProgramTrees.{program}
use Rattle.rg_floor.proofs.Histories.{length-rebuilt}
use Rattle.rg_floor.proofs.closed.Closed.len.Goals as goal

pub returns : goal.returns
returns c =
    let old = c.self.inside in
    omega (arith, c.len.ensures, old.changes.ok.0, length-rebuilt (program old.program.now) 0 old.start.values old.changes.items, ap (λ x. length x.history) c.self.view_is)
