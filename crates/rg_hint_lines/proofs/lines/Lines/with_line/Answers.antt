use Rattle.std.proofs.Common.{◌<◌, List, [], ◌∷◌, ◌++◌, ap, sym, arith, subst}
use Rattle.std.specs.Prelude.{All}
use Rattle.rg_hint_lines.specs.Lines.{HintLine, Section}
use Rattle.rg_hint_lines.proofs.ZippedLines.{zipped-push, IsZipped-push}
use Rattle.rg_hint_lines.proofs.lines.Lines.with_line.Goals as goal

pub invariant_of-result : goal.invariant_of-result
invariant_of-result c =
    let a = c.self.inside in
    let lines_are = ap (λ (s : Section). s.lines) c.self.view_is in
    let given_is = ap (λ (s : Section). s.given) c.self.view_is in
    let P : List HintLine → Type 0 = λ ls. All (λ line. line.id < c.args.head.id) ls in
    rw (c.in_ok-push.ensures.items, c.in_ok-push-2.ensures.ok, c.in_ok-push-3.ensures.ok)
    (IsZipped-push a.given a.heads.items a.literals a.hints c.args.head c.args.literals.now c.args.hints.now c.self.invariant (omega (arith, given_is, c.requires.past)) (subst P (sym lines_are) c.requires.rises) c.requires.literals)

pub returns : goal.returns
returns c =
    let a = c.self.inside in
    rw (c.in_ok-push.ensures.items, c.in_ok-push-2.ensures.ok, c.in_ok-push-3.ensures.ok, zipped-push a.heads.items a.literals a.hints c.args.head c.args.literals.now c.args.hints.now c.self.invariant.literals_fit c.self.invariant.hints_fit)
    (ap (λ (s : Section). record { given = s.given; lines = s.lines ++ record { id = c.args.head.id; text_line = c.args.head.text_line; literals = c.args.literals.now; hints = c.args.hints.now } ∷ [] }) c.self.view_is)
