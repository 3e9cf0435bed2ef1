use Rattle.std.proofs.Common.{rules}
use Rattle.rg_monitor.proofs.Typed.{part_typed}
use Rattle.rg_monitor.proofs.record.covering_parts.Goals as goal

pub is_covered-requires-clause-part : goal.is_covered-requires-clause-part
is_covered-requires-clause-part c =
    part_typed c.args.layout.now c.args.parts.now c.loop-i.i c.index-parts-i.result c.requires.parts (search rules) (search rules)
