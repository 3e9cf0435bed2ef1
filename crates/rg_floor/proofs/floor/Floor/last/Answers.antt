use Rattle.std.proofs.Common.{ap, length, arith}
use Rattle.rg_floor.proofs.Histories.{length-rebuilt}
use Rattle.rg_floor.proofs.floor.Floor.last.Goals as goal

pub returns : goal.returns
returns g c =
    let old = c.self.inside in
    omega (arith, c.len.ensures, old.changes.ok.0, length-rebuilt g.L.Round.program 0 g.L.Round.start old.changes.items, ap (λ f. length f.history) c.self.view_is)
