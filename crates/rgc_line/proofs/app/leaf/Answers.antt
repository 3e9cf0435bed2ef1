use Rattle.std.proofs.Common.{◌∙◌, sym, map, []}
use Rattle.std.proofs.lemmas.List.{at_drop_all}
use Rattle.clap.specs.Words.{app_of}
use Rattle.rgc_line.specs.Inner.Table.{rule_at}
use Rattle.rgc_line.proofs.Build.{with_rules, with_rules-leaf, field_added}
use Rattle.rgc_line.proofs.app.leaf.Goals as goal

pub loop-field-preserved : goal.loop-field-preserved
loop-field-preserved c =
    let before = c.loop-field.invariant in
    let adds = c.in_ok-command.ensures in
    record {
      shape = field_added c.loop-field.command c.in_ok-command.command c.argument.result c.args.row.now.fields.now c.loop-field.field-index _ c.loop-field-test.true c.argument.ensures.rule c.argument.ensures.local adds
          ∙ before.shape;
      local = rw (before.local, c.argument.ensures.local) at adds.globals;
    }

pub returns : goal.returns
returns c =
    let row = c.args.row.now in
    let done = at_drop_all (λ left. with_rules (app_of c.loop-field.command) (map rule_at left)) row.fields.now c.loop-field.field-index c.loop-field-test.false in
    (sym done ∙ c.loop-field.invariant.shape ∙ with_rules-leaf row.name.now [] (map rule_at row.fields.now), c.loop-field.invariant.local)
