use Rattle.std.proofs.Common.{arith, rules}
use Rattle.rg_code.proofs.Limits.{part_below}
use Rattle.rg_code.proofs.compile.part_codes.Goals as goal

pub part_code-requires : goal.part_code-requires
part_code-requires c =
    let h = part_below c.args.parts.now c.loop-part.part-index c.part-item.result (search rules) (search rules) in
    omega (arith, h, c.requires)
