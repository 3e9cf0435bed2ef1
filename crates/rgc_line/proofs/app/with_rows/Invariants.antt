use Rattle.std.proofs.Common.{◌≡◌, map, drop}
use Rattle.clap.specs.Words.{app_of}
use Rattle.rgc_line.specs.App.{rgc_top}
use Rattle.rgc_line.specs.Inner.Table.{shape_at, with_subcommands}
use Rattle.rgc_line.proofs.app.with_rows.Given as goal

abbrev pub invariant-loop-row : goal.invariant-loop-row
invariant-loop-row l =
    with_subcommands (app_of l.command) (map shape_at (drop l.row-index l.rows)) ≡ with_subcommands rgc_top (map shape_at l.rows)
