use Rattle.std.proofs.Common.{refl}
use Rattle.rgc_answers.proofs.Items.{lined}
use Rattle.rgc_answers.proofs.accepted.accepted_text.Goals as goal

pub returns-in_ok-value-in-Json : goal.returns-in_ok-value-in-Json
returns-in_ok-value-in-Json c = rw c.in-Json.is (lined c.line_of.result _ _ refl c.in_ok-value-in-Json.ensures c.line_of.ensures)
