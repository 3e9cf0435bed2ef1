use Rattle.rg_floor.proofs.OneMore.{kept_first}
use Rattle.rg_floor.proofs.floor.Floor.fresh.Goals as goal

pub invariant_of-result : goal.invariant_of-result
invariant_of-result g c =
    let r = c.requires in
    kept_first _ _ _ _ _ _ _ _ _ _ _ _ r.code r.config r.ahead r.scratch r.widths r.start c.facts.ensures.state r.limit.0 r.limit.1 r.law r.pre r.book c.new.ensures.items
