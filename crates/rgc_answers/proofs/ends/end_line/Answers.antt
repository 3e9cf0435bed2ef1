use Rattle.std.proofs.Common.{refl}
use Rattle.rgc_answers.proofs.Items.{lined}
use Rattle.rgc_answers.proofs.ends.end_line.Goals as goal

pub returns : goal.returns
returns c = lined c.line_of.result _ _ refl c.in_ok-value.ensures c.line_of.ensures
