use Rattle.std.proofs.Common.{◌+◌, Option, List, sym, subst, ◌∙◌, arith}
use Rattle.rg_hint_lines.specs.declared.sections.SectionBytes.{SectionBytes}
use Rattle.rg_hints.specs.Placed.{ArePlaced}
use Rattle.rg_hints.proofs.PlacedSteps.{placed_more}
use Rattle.rg_hints.proofs.proof.place_sections.Goals as goal

pub loop-index-preserved : goal.loop-index-preserved
loop-index-preserved c =
    let inv = c.loop-index.invariant in
    let took = c.take_section-after.ensures in
    let here = inv.same (c.loop-index.index + 1) (omega arith) in
    let all = placed_more c.args.sections.now c.loop-index.placed.items c.take_section-after.result.0 (c.loop-index.index + 1) (omega (arith, inv.len, c.loop-index.placed.ok.0)) inv.each (record { is = took.found ∙ sym here; room = took.room }) in
    record {
      len = omega (arith, c.in_ok-push.ensures.len, inv.len);
      from = took.after;
      same = λ k low. inv.same k (omega (arith, low)) ∙ took.same k (omega (arith, low));
      each = subst (λ (xs : List (Option SectionBytes)). ArePlaced c.args.sections.now xs) (sym c.in_ok-push.ensures.items) all;
    }
