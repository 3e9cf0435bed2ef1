use Rattle.std.proofs.Common.{rules}
use Rattle.rg_par.proofs.Typed.{part_typed}
use Rattle.rg_par.proofs.conditions.add_crosses.Goals as goal

pub add_others-requires-clause-rely : goal.add_others-requires-clause-rely
add_others-requires-clause-rely c =
    (part_typed c.args.layout.now c.args.parts.now c.loop-i.i c.index-parts-i.result c.requires.parts (search rules) (search rules)).1
