use Rattle.rg_floor.proofs.Together.{together}
use Rattle.rg_floor.proofs.floor.Floor.begin.Goals as goal

pub fresh-floor-requires-clause-law : goal.fresh-floor-requires-clause-law
fresh-floor-requires-clause-law g c =
    rw (← c.requires.program, ← c.requires.code) (together c.args.program.now c.args.code.now c.requires.law)
