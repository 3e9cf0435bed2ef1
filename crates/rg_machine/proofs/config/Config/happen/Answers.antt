use Rattle.rg_machine.proofs.Replayed.{blocked_refuses, end_refuses}
use Rattle.rg_machine.proofs.config.Config.happen.Goals as goal

pub returns-in-Blocked-clause-refused : goal.returns-in-Blocked-clause-refused
returns-in-Blocked-clause-refused c =
    let fits = rw c.in-Part.is at c.requires in
    λ e. rw c.in-Part.is (blocked_refuses c.args.self.now c.in-Part.part fits c.in-Blocked.ensures.0)

pub returns-in-Ended-clause-refused : goal.returns-in-Ended-clause-refused
returns-in-Ended-clause-refused c =
    let fits = rw c.in-Part.is at c.requires in
    λ e. rw c.in-Part.is (end_refuses c.args.self.now c.in-Part.part fits c.in-Ended.ensures.0)
