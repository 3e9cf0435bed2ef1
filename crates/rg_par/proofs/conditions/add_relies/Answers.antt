use Rattle.rg_par.proofs.Typed.{part_typed}
use Rattle.std.proofs.Common.{rules}
use Rattle.rg_par.proofs.conditions.add_relies.Goals as goal

pub allows-requires : goal.allows-requires
allows-requires c =
    let spec = part_typed c.args.layout.now c.args.parts.now c.loop-part.part-index c.part-item.result c.requires.parts (search rules) (search rules) in
    rw c.in_ok-copy.ensures (record { hypotheses = (c.requires.rely, tt); second = tt; goal = spec.1 })
