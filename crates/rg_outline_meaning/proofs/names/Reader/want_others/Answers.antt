use Rattle.std.proofs.Common.{◌≢◌}
use Rattle.rg_outline_meaning.specs.Names.{text_of}
use Rattle.rg_outline_meaning.specs.View.{outline}
use Rattle.rg_outline_meaning.proofs.Placed.{all_step, other_text}
use Rattle.rg_outline_meaning.proofs.names.Reader.want_others.Goals as goal

pub loop-other-preserved : goal.loop-other-preserved
loop-other-preserved c =
    let o = outline c.args.self.now in
    all_step (text_of o) (λ other. other ≢ text_of o c.args.name) c.args.others.now c.loop-other.other-index _ c.loop-other-test.true
    c.loop-other.invariant (other_text _ _ _ _ c.text.ensures c.text-text.ensures c.if-eq.ensures)
