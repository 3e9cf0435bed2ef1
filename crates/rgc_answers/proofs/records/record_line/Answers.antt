use Rattle.rg_tree.specs.ProgramTrees.{program}
use Rattle.rgc_answers.proofs.Exact.{record_exact}
use Rattle.rgc_answers.proofs.Items.{lined}
use Rattle.rgc_answers.proofs.records.record_line.Goals as goal

pub returns : goal.returns
returns c = lined c.line_of.result _ _ (record_exact (program c.args.program.now) c.args.step.now) c.in_ok-value.ensures c.line_of.ensures
