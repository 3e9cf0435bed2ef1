use Rattle.rg_floor.proofs.Readiness.{not_all}
use Rattle.rg_floor.proofs.ready.has_ended.Goals as goal

pub returns-else-stands_at_end : goal.returns-else-stands_at_end
returns-else-stands_at_end c =
    not_all c.args.config.now.codes c.args.config.now.places c.args.part c.stands_at_end.result c.requires.part.0 c.requires.part.1 c.requires.sized c.stands_at_end.ensures c.if-stands_at_end.false
