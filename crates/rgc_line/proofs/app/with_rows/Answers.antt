use Rattle.std.proofs.Common.{◌∙◌, sym, map}
use Rattle.std.proofs.lemmas.List.{at_drop_all}
use Rattle.clap.specs.Words.{app_of}
use Rattle.rgc_line.specs.Inner.Table.{shape_at, with_subcommands}
use Rattle.rgc_line.proofs.Build.{row_added}
use Rattle.rgc_line.proofs.app.with_rows.Goals as goal

pub loop-row-preserved : goal.loop-row-preserved
loop-row-preserved c =
    row_added c.loop-row.command c.in_ok-leaf.leaf c.in_ok-command.command c.args.rows.now c.loop-row.row-index _ c.loop-row-test.true c.in_ok-leaf.ensures c.in_ok-command.ensures
    ∙ c.loop-row.invariant

pub returns : goal.returns
returns c =
    sym (at_drop_all (λ left. with_subcommands (app_of c.loop-row.command) (map shape_at left)) c.args.rows.now c.loop-row.row-index c.loop-row-test.false) ∙ c.loop-row.invariant
