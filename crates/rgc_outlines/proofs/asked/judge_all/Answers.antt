use Rattle.std.proofs.Common.{◌+◌}
use Rattle.rgc.proofs.Search.{unjudged_there}
use Rattle.rgc_outlines.proofs.asked.judge_all.Goals as goal

pub returns-in-Err : goal.returns-in-Err
returns-in-Err g c =
    let why = unjudged_there c.args.conditions.now c.loop-place.place c.args.steps c.index-conditions-place.result c.in-Err.refusal c.loop-place-test.true c.index-conditions-place.is c.in-Err.ensures in
    record { number = c.loop-place.place + 1; condition = why.0; is = why.1; refusal = why.2 }
