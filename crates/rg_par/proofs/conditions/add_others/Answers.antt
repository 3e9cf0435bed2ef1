use Rattle.std.proofs.Common.{rules}
use Rattle.rg_par.proofs.Typed.{part_typed}
use Rattle.rg_par.proofs.conditions.add_others.Goals as goal

pub add_other-requires-clause-part : goal.add_other-requires-clause-part
add_other-requires-clause-part c =
    part_typed c.args.layout.now c.args.parts.now c.loop-j.j c.index-parts-j.result c.requires.parts (search rules) (search rules)
