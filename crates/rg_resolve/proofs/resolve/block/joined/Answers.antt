use Rattle.std.proofs.Common.{arith}
use Rattle.rg_resolve.proofs.Blocks.{all_start, all_step, all_block}
use Rattle.rg_resolve.proofs.Chain.{no_items}
use Rattle.rg_resolve.proofs.resolve.block.joined.Goals as goal

pub loop-earlier-init : goal.loop-earlier-init
loop-earlier-init c = rw c.in_ok-new.ensures.ok (all_start _ _ _ _ _ c.in-Some.ensures.items c.in-Some-pop.ensures.items)

pub loop-earlier-preserved : goal.loop-earlier-preserved
loop-earlier-preserved c =
    rw (c.in_ok-item.ensures.ok, c.in_ok-new-2.ensures.ok) (all_step _ _ _ _ _ _ c.loop-earlier.invariant c.in-Some-pop-2.ensures.items)

pub returns : goal.returns
returns c =
    let none = no_items c.loop-earlier.statements.items (omega (arith, c.in_default-pop-2.ensures.cases.0, c.loop-earlier.statements.ok)) in
    rw (c.line_of-line.ensures, c.in_ok-first.ensures.ok, c.in_ok-new-3.ensures.ok) (all_block _ _ _ _ c.loop-earlier.invariant none)
