use Rattle.std.proofs.Common.{◌≡◌, map, drop, false}
use Rattle.clap.specs.Words.{app_of, new_app}
use Rattle.clap.specs.declared.builder.command.Command.TheViews.{out-Command}
use Rattle.rgc_line.specs.Inner.Table.{rule_at}
use Rattle.rgc_line.proofs.Build.{with_rules}
use Rattle.rgc_line.proofs.app.leaf.Given as goal

abbrev pub invariant-loop-field : goal.invariant-loop-field
invariant-loop-field l = record {
  shape : with_rules (app_of l.command) (map rule_at (drop l.field-index l.row.fields.now)) ≡ with_rules (new_app l.row.name.now) (map rule_at l.row.fields.now);
  local : (out-Command l.command).has_globals ≡ false;
}
