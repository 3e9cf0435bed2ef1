use Rattle.std.proofs.Common.{length, rules}
use Rattle.rg_machine.proofs.Lookups.{fits_at}
use Rattle.rg_machine.proofs.stack.work_out.Goals as goal

pub apply-requires-clause-fits : goal.apply-requires-clause-fits
apply-requires-clause-fits c =
    fits_at (length c.args.state.now.values) c.args.operations.now c.loop-operation.operation-index _ c.requires.fits (search rules) (search rules)
