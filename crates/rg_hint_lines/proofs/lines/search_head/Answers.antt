use Rattle.std.proofs.Common.{◌+◌, ◌-◌, ◌/◌, ◌<◌, length, get_or, arith}
use Rattle.rg_hint_lines.proofs.ZippedLines.{below_middle, above_middle, no_head}
use Rattle.rg_hint_lines.proofs.lines.search_head.Goals as goal

pub loop-low-preserved-then-found-id-2 : goal.loop-low-preserved-then-found-id-2
loop-low-preserved-then-found-id-2 c =
    let middle = c.loop-low.low + (c.loop-low.high - c.loop-low.low) / 2 in
    let small : middle < length c.args.heads.now = omega arith in
    record {
      order = omega arith;
      bound = c.loop-low.invariant.bound;
      below = below_middle c.args.heads.now c.args.id middle c.requires small c.if-found-id-2.true;
      above = c.loop-low.invariant.above;
    }

pub loop-low-preserved : goal.loop-low-preserved
loop-low-preserved c =
    let middle = c.loop-low.low + (c.loop-low.high - c.loop-low.low) / 2 in
    let small : middle < length c.args.heads.now = omega arith in
    let past : c.args.id < (get_or c.args.heads.now middle no_head).id = omega (arith, c.if-found-id-2.false, c.if-found-id.false) in
    record {
      order = omega arith;
      bound = omega arith;
      below = c.loop-low.invariant.below;
      above = above_middle c.args.heads.now c.args.id middle c.requires small past;
    }
