use Rattle.rg_tree.specs.ProgramTrees.{program as program_tree}
use Rattle.rg_runner.proofs.Printed.{added}
use Rattle.rg_runner.proofs.log.add.Goals as goal

pub returns-clause-prints : goal.returns-clause-prints
returns-clause-prints c = λ taken base h.
    added (program_tree c.args.program.now) base taken c.args.log.now.waiting.items c.push_line.new.text.items c.args.log.now.printed.items c.push.new.self.items c.args.step h c.in_ok-push_line.ensures c.in_ok-push.ensures.items
