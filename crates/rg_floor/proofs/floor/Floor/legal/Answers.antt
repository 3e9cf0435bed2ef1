use Rattle.rg_floor.proofs.OneMore.{legal_kept}
use Rattle.rg_floor.proofs.floor.Floor.legal.Goals as goal

pub returns-clause-legal : goal.returns-clause-legal
returns-clause-legal g c =
    let old = c.self.inside in
    legal_kept _ _ _ _ _ _ _ _ _ _ _ _ _ c.self.invariant old.stopped old.more c.args.self.now c.self.view_is
