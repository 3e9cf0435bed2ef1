use Rattle.std.proofs.Common.{◌≡◌, false, eqb, length, take, drop, sym, ap, subst, ◌∙◌}
use Rattle.std.proofs.lemmas.List.{take-append-drop, take-take}
use Rattle.std.proofs.lemmas.List.Elements.{All-take}
use Rattle.rg_hint_lines.specs.LineEnds.{EndsLine}
use Rattle.rg_hint_lines.specs.Inner.SectionForms.{HasNoS}
use Rattle.rg_hint_lines.proofs.FeedCounts.{plain_cut}
use Rattle.rg_hint_lines.proofs.sections.after_lines_without_s.Goals as goal

pub returns-clause-lines : goal.returns-clause-lines
returns-clause-lines c =
    let n = c.whole_lines_len-end.result in
    let text = c.args.text.now in
    let plain = c.before_first_s.result.now in
    let same : take n plain ≡ take n text = ap (take n) c.before_first_s.ensures.front ∙ take-take n (length plain) text c.whole_lines_len-end.ensures.bound in
    let clear = subst HasNoS same (All-take (λ b. eqb b 115 ≡ false) n plain c.before_first_s.ensures.none) in
    let cut = plain_cut text (take n text) (drop n text) (sym (take-append-drop n text)) (subst EndsLine same c.whole_lines_len-end.ensures.ends) clear in
    (take n text, rw (c.skip.ensures, c.line_feeds.ensures.value) cut)
