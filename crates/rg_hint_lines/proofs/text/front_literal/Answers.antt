use Rattle.std.proofs.Common.{Some, ap, sym, ◌∙◌}
use Rattle.rg_hint_lines.proofs.Literals.{within_back}
use Rattle.rg_hint_lines.proofs.FieldFronts.{signed_after, literal_none, literal_zero, literal_some}
use Rattle.rg_hint_lines.proofs.text.front_literal.Goals as goal

pub returns-in_default-clause-value : goal.returns-in_default-clause-value
returns-in_default-clause-value c =
    literal_none c.args.bytes.now c.sign_len-sign.result c.sign_len-sign.ensures.value (rw c.skip.ensures at c.in_default.ensures.value)

pub returns-then-is_minus_zero-clause-value : goal.returns-then-is_minus_zero-clause-value
returns-then-is_minus_zero-clause-value c =
    let value = rw c.skip.ensures at c.in-Some.ensures.value in
    literal_zero c.args.bytes.now c.sign_len-sign.result c.sign_len-sign.ensures.value c.in-Some.number value.0 (sym c.is_minus_zero.ensures ∙ c.if-is_minus_zero.true)

pub returns-clause-value : goal.returns-clause-value
returns-clause-value c =
    let value = rw c.skip.ensures at c.in-Some.ensures.value in
    let literal = c.signed_literal in (
      literal_some c.args.bytes.now c.sign_len-sign.result c.sign_len-sign.ensures.value c.in-Some.number value.0 (sym c.is_minus_zero.ensures ∙ c.if-is_minus_zero.false)
          ∙ ap Some (sym literal.ensures.value ∙ sym (within_back literal.result literal.ensures.within)),
      value.1 ∙ signed_after c.args.bytes.now c.sign_len-sign.result c.sign_len-sign.ensures.value,
    )
