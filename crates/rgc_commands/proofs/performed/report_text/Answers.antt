use Rattle.rgc_commands.proofs.Reporting.{written_writes}
use Rattle.rgc_commands.proofs.performed.report_text.Goals as goal

pub returns : goal.returns
returns g c = written_writes _ _ _ _ c.args.text.now _ c.write_all.ensures
