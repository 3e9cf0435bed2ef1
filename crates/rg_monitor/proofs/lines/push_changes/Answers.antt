use Rattle.std.proofs.Common.{◌∙◌, arith}
use Rattle.rg_monitor.proofs.Words.{state_length}
use Rattle.rg_monitor.proofs.Names.{changes_more}
use Rattle.rg_monitor.proofs.lines.push_changes.Goals as goal

pub get-requires : goal.get-requires
get-requires c = omega (arith, state_length c.args.layout.now c.args.before.now.values c.requires.before)

pub get-requires-in-loop-word : goal.get-requires-in-loop-word
get-requires-in-loop-word c = omega (arith, state_length c.args.layout.now c.args.after.now.values c.requires.after)

pub loop-word-preserved : goal.loop-word-preserved
loop-word-preserved c =
    changes_more c.args.layout.now c.args.before.now.values c.args.after.now.values c.loop-word.word c.loop-word.text.items _ _ _ _ c.requires.before c.requires.after (omega arith) c.in_ok-push_if_changed.ensures c.name.ensures.exact c.get.ensures.exact c.get-in-loop-word.ensures.exact
    ∙ c.loop-word.invariant
