use Rattle.std.proofs.Common.{arith}
use Rattle.rg_pool.proofs.DealSteps.{part_below, parts_left, kept_more}
use Rattle.rg_pool.proofs.dealing.deal.Goals as goal

pub put_all-requires : goal.put_all-requires
put_all-requires g c = λ k d small.
    let low = part_below c.loop-part.parts.items c.pop.new.self.items c.in-Some.part c.in_ok-part.field-0 c.loop-part.invariant.left c.in-Some.ensures.items c.in_ok-part.was k d small in
    omega (arith, low, c.loop-part.invariant.len)

pub loop-part-preserved : goal.loop-part-preserved
loop-part-preserved g c = record {
  len = omega (arith, c.loop-part.invariant.len, c.put_all.ensures.size, c.put_all.new.places.ok.0, c.loop-part.places.ok.0);
  each = kept_more c.loop-part.parts.items c.pop.new.self.items c.in-Some.part c.in_ok-part.field-0 c.loop-part.invariant.left c.in-Some.ensures.items c.in_ok-part.was c.loop-part.places.items c.put_all.new.places.items c.put_all.ensures c.loop-part.invariant.each;
  left = parts_left c.loop-part.parts.items c.pop.new.self.items c.in-Some.part c.in_ok-part.field-0 c.loop-part.invariant.left c.in-Some.ensures.items;
}
