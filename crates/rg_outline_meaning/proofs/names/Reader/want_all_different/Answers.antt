use Rattle.rg_outline_meaning.specs.Names.{text_of}
use Rattle.rg_outline_meaning.specs.View.{outline}
use Rattle.rg_outline_meaning.proofs.ProgramRules.{different_next, different_all}
use Rattle.rg_outline_meaning.proofs.names.Reader.want_all_different.Goals as goal

pub loop-place-preserved : goal.loop-place-preserved
loop-place-preserved c = different_next (text_of (outline c.args.self.now)) c.args.all.now c.loop-place.place _ c.loop-place-test.true c.in_ok-want_others.ensures c.loop-place.invariant

pub returns : goal.returns
returns c = different_all (text_of (outline c.args.self.now)) c.args.all.now c.loop-place.place c.loop-place-test.false c.loop-place.invariant
