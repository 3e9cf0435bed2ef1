use Rattle.rgc.proofs.Search.{answer_there, unjudged_there}
use Rattle.rgc.proofs.proofs_found.seek.Goals as goal

pub returns-in-Ok : goal.returns-in-Ok
returns-in-Ok g c = answer_there c.args.conditions.now c.args.place c.args.steps c.index-conditions-place.result c.with_section.result c.in-Ok.judged c.requires c.index-conditions-place.is c.in-Ok.ensures.judged c.in-Ok.ensures.within c.with_section.ensures.judged c.with_section.ensures.memory

pub returns-in-Err : goal.returns-in-Err
returns-in-Err g c = unjudged_there c.args.conditions.now c.args.place c.args.steps c.index-conditions-place.result c.in-Err.refusal c.requires c.index-conditions-place.is c.in-Err.ensures.refusal
