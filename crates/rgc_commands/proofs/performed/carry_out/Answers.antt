use Rattle.std.proofs.Common.{◌∙◌, sym}
use Rattle.rgc_commands.proofs.Reporting.{status_zero}
use Rattle.rgc_commands.proofs.performed.carry_out.Goals as goal

pub returns-in-Ok-deliver-clause-done : goal.returns-in-Ok-deliver-clause-done
returns-in-Ok-deliver-clause-done g c = λ zero. record {
  answer = c.in-Ok.answer;
  fit = c.in-Ok.ensures.fit;
  is = c.in-Ok.ensures.answer;
  has = status_zero _ (sym c.answer_status-status.ensures.is ∙ zero);
  delivered = c.in-Ok-deliver.ensures.delivered;
}

pub returns-in-Ok-deliver-clause-sides : goal.returns-in-Ok-deliver-clause-sides
returns-in-Ok-deliver-clause-sides g c = λ zero. c.put_proofs.ensures c.args.files.now c.args.sides.now c.in-Ok.ensures.put
