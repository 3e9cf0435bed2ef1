use Rattle.std.proofs.Common.{◌≡◌, false, sym}
use Rattle.rg_tree.specs.View.{expression}
use Rattle.rg_outline_meaning.specs.Members.{mentions}
use Rattle.rg_outline_meaning.specs.View.{candidate}
use Rattle.rg_outline_meaning.proofs.Placed.{all_step, all_of}
use Rattle.rg_outline_meaning.proofs.statements.want_unmentioned.Goals as goal

pub loop-member-preserved : goal.loop-member-preserved
loop-member-preserved c =
    all_step candidate (λ m. mentions m.word (expression c.args.value.now) ≡ false) c.args.members.now c.loop-member.member-index _ c.loop-member-test.true
    c.loop-member.invariant (sym c.if-mentions.ensures)

pub returns : goal.returns
returns c = all_of candidate (λ m. mentions m.word (expression c.args.value.now) ≡ false) c.args.members.now c.loop-member.member-index c.loop-member-test.false c.loop-member.invariant
