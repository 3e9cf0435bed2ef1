use Rattle.std.proofs.Common.{subst}
use Rattle.rg_outline_syntax.specs.declared.written.ExpressionKind.TheVariants.{Join}
use Rattle.rg_outline_meaning.specs.Names.{HasKind}
use Rattle.rg_outline_meaning.specs.View.{outline}
use Rattle.rg_outline_meaning.proofs.Chains.{longer}
use Rattle.rg_outline_meaning.proofs.names.Reader.links.Goals as goal

pub loop-place-preserved : goal.loop-place-preserved
loop-place-preserved c =
    let o = outline c.args.self.now in
    let k = c.in-Join in
    let made : HasKind o c.loop-place.first (Join k.junction k.left k.operand) = subst (λ kind. HasKind o c.loop-place.first kind) k.is c.in_ok-junction.ensures in
    λ index at. longer o c.loop-place.links.items c.push-in-loop-place.new.self.items (record { junction = k.junction; operand = k.operand }) c.loop-place.first k.left index c.in_ok-push-2.ensures.items (c.loop-place.invariant index at) made
