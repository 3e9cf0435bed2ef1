use Rattle.std.proofs.Common.{refl}
use Rattle.rg_outline_meaning.specs.View.{outline, words, knowns}
use Rattle.rg_outline_meaning.proofs.ProgramRules.{ranges_next}
use Rattle.rg_outline_meaning.proofs.names.Reader.index_ranges.Goals as goal

pub loop-index-preserved : goal.loop-index-preserved
loop-index-preserved c =
    let r = c.args.self.now in
    ranges_next (outline r) (words r) (knowns r) c.listed-index-items.result.now c.loop-index.index-index _ _ c.loop-index.ranges.items c.push.new.self.items c.in_ok-index_range.field-0
    refl c.loop-index-test.true c.in_ok-push.ensures.items c.loop-index.invariant c.in_ok-index_range.ensures
