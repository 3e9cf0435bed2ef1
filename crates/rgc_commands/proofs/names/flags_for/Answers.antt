use Rattle.std.proofs.Common.{◌<◌, length, arith, rules}
use Rattle.rgc_commands.specs.Flagged.{is_left_out, flags_for}
use Rattle.rgc_commands.proofs.Places.{one_more}
use Rattle.rgc_commands.proofs.names.flags_for.Goals as goal

pub loop-word-preserved : goal.loop-word-preserved
loop-word-preserved c =
    let words = c.args.layout.now in
    let less : c.loop-word.word < length words = omega (arith, c.loop-word-test.true, c.len-word-end.ensures.count) in
    one_more (is_left_out words c.args.names c.args.flagged.now) c.loop-word.word (length words) c.loop-word.flags.items c.push.new.self.items (flags_for words c.args.names c.args.flagged.now) c.is_left_out.result less (search rules) (search rules) c.loop-word.invariant
