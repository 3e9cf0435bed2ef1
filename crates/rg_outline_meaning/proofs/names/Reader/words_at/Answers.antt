use Rattle.rg_outline_meaning.specs.Names.{text_of}
use Rattle.rg_outline_meaning.specs.View.{outline, words}
use Rattle.rg_outline_meaning.proofs.Families.{members_next}
use Rattle.rg_outline_meaning.proofs.names.Reader.words_at.Goals as goal

pub loop-indices-preserved : goal.loop-indices-preserved
loop-indices-preserved c =
    members_next (λ is. is.items) (words c.args.self.now) (text_of (outline c.args.self.now) c.args.name) c.args.all.now c.loop-indices.indices-index c.indices-item.result
    c.loop-indices.words.items c.push.new.self.items c.in_ok-member.field-0 c.indices-item.is c.loop-indices-test.true c.loop-indices.invariant
    (rw c.deref.ensures.value at c.in_ok-member.ensures) c.in_ok-push.ensures.items
