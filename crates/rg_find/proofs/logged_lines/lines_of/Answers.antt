use Rattle.std.proofs.Common.{◌≡◌, ◌≤◌, ◌+◌, List, arith, ap, rules, subst, sym, length}
use Rattle.std.specs.Prelude.{All}
use Rattle.rg_hints.specs.Lines.{HintLine, Section}
use Rattle.rg_find.specs.Found.{HasNoGaps}
use Rattle.rg_find.proofs.Values.{numbers_pushed, count_pushed, order_pushed}
use Rattle.rg_find.proofs.logged_lines.lines_of.Goals as goal

pub loop-index-preserved : goal.loop-index-preserved
loop-index-preserved c =
    let last = c.loop-index.last in
    let is = c.in_ok-lines.ensures in
    let P : List HintLine → Type 0 = λ lines. All (λ (l : HintLine). l.id ≤ last + 1) lines in
    let Counted : List HintLine → Type 0 = λ lines. last + 1 ≡ c.args.given + length lines in
    record {
      given = search rules;
      past = subst Counted (sym (ap (λ (s : Section). s.lines) is)) (count_pushed c.args.given last c.loop-index.lines.lines _ c.loop-index.invariant.past);
      order = subst HasNoGaps (sym is) (order_pushed c.loop-index.lines.given c.loop-index.lines.lines _ c.loop-index.invariant.order (omega (arith, c.loop-index.invariant.past, c.loop-index.invariant.given)));
      numbers = subst P (sym (ap (λ (s : Section). s.lines) is)) (numbers_pushed c.loop-index.lines.lines _ last (last + 1) c.loop-index.invariant.numbers (omega arith) (omega arith));
    }
