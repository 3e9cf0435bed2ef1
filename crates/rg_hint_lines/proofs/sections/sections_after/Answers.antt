use Rattle.std.proofs.Common.{◌≡◌, ◌+◌, ◌≤◌, length, refl, sym, ap, subst, ◌∙◌, arith}
use Rattle.std.proofs.lemmas.List.{length-append}
use Rattle.std.proofs.lemmas.List.Elements.{All-push}
use Rattle.rg_hint_lines.specs.declared.sections.SectionBytes.{SectionBytes}
use Rattle.rg_hint_lines.specs.Inner.SectionForms.{BeginsWithHead}
use Rattle.rg_hint_lines.proofs.SectionSteps.{one_section, rising_more, below_more, rest_is}
use Rattle.rg_hint_lines.proofs.sections.sections_after.Goals as goal

pub loop-rest-preserved : goal.loop-rest-preserved
loop-rest-preserved c =
    let inv = c.loop-rest.invariant in
    let items = c.loop-rest.sections.items in
    let after = c.split_line.result.1.now in
    let bytes = c.lines_before_head-lines.result.0.now in
    let a = c.lines_before_head-lines.ensures.lines in
    let above = c.in-Ok.ensures.above in
    let rest : c.skip-rest.result.now ≡ a.rest = c.skip-rest.ensures ∙ rest_is after bytes a.rest a.are.fronts.is in
    let size : length after ≡ length bytes + length a.rest = ap length a.are.fronts.is ∙ length-append bytes a.rest in
    let bound = c.args.first_line + length c.args.text.now in
    rw c.in_ok-push.ensures.items (record {
      found = one_section c.args.count c.loop-rest.last c.loop-rest.number items c.loop-rest.rest.now c.split_line.result.0.now after _ c.split_line.ensures.lines inv.begins inv.found c.in-Ok.condition (sym c.in-Ok.ensures.value) bytes c.skip-rest.result.now
          c.lines_before_head-lines.result.1 a rest _ refl;
      begins = subst BeginsWithHead (sym rest) a.begins;
      bound = above.1;
      below = below_more items _ c.loop-rest.last inv.below above.0;
      rising = rising_more items _ c.loop-rest.last inv.rising inv.below above.0;
      fits = All-push (λ (s : SectionBytes). s.first_line + length s.bytes.now ≤ bound) items _ inv.fits (omega (arith, inv.room, c.split_line.ensures.shorter, c.lines_before_head-lines.ensures.bound));
      room = omega (arith, inv.room, c.split_line.ensures.shorter, c.lines_before_head-lines.ensures.room, size, ap length rest);
    })
