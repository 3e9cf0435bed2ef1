use Rattle.std.proofs.Common.{arith, ap, of_z, w32}
use Rattle.std.proofs.lemmas.Grind.{common_steps}
use Rattle.std.proofs.lemmas.List.Elements.{All-push}
use Rattle.rg_hint_lines.specs.Lines.{IsHintLiteral}
use Rattle.rg_hint_lines.proofs.Literals.{literal_back}
use Rattle.rg_hint_lines.proofs.read.read_literals.Goals as goal

pub loop-literal-preserved : goal.loop-literal-preserved
loop-literal-preserved c =
    let literal = c.in-Some.literal in
    let fit : IsHintLiteral literal = c.in-Some.ensures.bound (λ e. c.if-literal-eq0.false (ap (of_z w32) e)) in
    record {
      value = grind (arith, common_steps);
      fit = rw (c.in_ok-push.ensures.items, literal_back literal fit) (All-push IsHintLiteral c.loop-literal.literals.items literal c.loop-literal.invariant.fit fit);
    }
