use Rattle.std.proofs.Common.{◌==◌, ◌∙◌, sym, ap, subst, length}
use Rattle.rg_outline_meaning.specs.Names.{text_of, IsNew}
use Rattle.rg_outline_meaning.specs.Expressions.{RangeIs}
use Rattle.rg_outline_meaning.specs.Reading.{AreMembersOf}
use Rattle.rg_outline_meaning.specs.View.{outline, words, knowns}
use Rattle.rg_outline_meaning.proofs.ProgramRules.{family_of, some_of}
use Rattle.rg_outline_meaning.proofs.names.Reader.after_parts.Goals as goal

pub returns-in_ok-next-in-Some-clause-parts : goal.returns-in_ok-next-in-Some-clause-parts
returns-in_ok-next-in-Some-clause-parts c =
    let r = c.args.self.now in
    let o = outline r in
    let p = c.args.written.now in
    let parts = c.args.parts.now in
    let index = c.in-Some.index in
    let range = c.in-Some.range in
    let zs = c.in_ok-numbers-in-Some.numbers.items in
    let next = c.in_ok-next-in-Some.next in
    family_of o (words r) (knowns r) p parts c.args.first next index range zs c.in-Some.is
    (subst (λ n. IsNew n (text_of o index)) c.so_far-names.ensures c.in_ok-want_new-in-Some.ensures)
    (subst (λ n. RangeIs o (words r) n range zs) c.so_far-names.ensures c.in_ok-numbers-in-Some.ensures)
    (some_of zs c.is_empty.result (c.is_empty.ensures ∙ ap (λ n. n == 0) (sym c.deref.ensures.len ∙ ap length c.deref.ensures.value)) c.if-is_empty.false)
    (subst (λ ys. AreMembersOf o (words r) (knowns r) p index ys parts c.args.first next) c.deref.ensures.value c.in_ok-next-in-Some.ensures.parts)
