use Rattle.std.proofs.Common.{◌<◌, ◌+◌, ◌++◌, length, arith}
use Rattle.rg_hint_lines.proofs.LineCuts.{plain_more}
use Rattle.rg_hint_lines.proofs.FeedCounts.{plain_join}
use Rattle.rg_hint_lines.proofs.sections.lines_before_head.Goals as goal

pub loop-after-preserved : goal.loop-after-preserved
loop-after-preserved c =
    let text = c.args.text.now in
    let lines = c.loop-after.invariant.lines in
    let line = c.in-Some.ensures.line in
    let more = c.after_lines_without_s-more.ensures.lines in
    let after = c.in-Some.after.now in
    let some : 0 < length c.loop-after.rest.now = omega (arith, c.in-Some.ensures.shorter) in
    let one = plain_more text lines.0 c.loop-after.rest.now after c.loop-after.count lines.1 some line in
    let all = plain_join text (lines.0 ++ line.front.front) after more.0 c.after_lines_without_s-more.result.0.now (c.loop-after.count + 1) c.after_lines_without_s-more.result.1 (c.loop-after.count + (1 + c.after_lines_without_s-more.result.1)) one more.1 (omega arith) in
    record {
      lines = ((lines.0 ++ line.front.front) ++ more.0, all);
      room = omega (arith, c.loop-after.invariant.room, c.in-Some.ensures.shorter, c.after_lines_without_s-more.ensures.room);
    }
