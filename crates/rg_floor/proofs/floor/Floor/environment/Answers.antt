use Rattle.std.proofs.Common.{refl}
use Rattle.rg_floor.proofs.OneMore.{kept_try, gives_try}
use Rattle.rg_floor.proofs.floor.Floor.environment.Goals as goal

pub invariant_of-self : goal.invariant_of-self
invariant_of-self g c =
    kept_try _ _ _ _ _ _ _ _ _ _ _ _ _ c.self.invariant _ c.requires.program c.self.inside.more c.args.state.values c.try_move.result _ _ _ c.try_move.ensures

pub returns : goal.returns
returns g c =
    let old = c.self.inside in
    gives_try _ _ _ _ _ _ _ _ _ _ _ _ _ c.self.invariant _ c.requires.program old.stopped old.more c.args.self.now c.self.view_is c.args.state.values _ refl c.try_move.result _ _ _ c.try_move.ensures
