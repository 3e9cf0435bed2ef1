use Rattle.rgc_answers.proofs.Floats.{unproved_exact}
use Rattle.rgc_answers.proofs.Items.{lined}
use Rattle.rgc_answers.proofs.proof_lines.unproved_line.Goals as goal

pub returns : goal.returns
returns c = lined c.line_of.result _ _ (unproved_exact c.args.words.now c.args.name.now c.args.unproved.now) c.in_ok-value.ensures c.line_of.ensures
