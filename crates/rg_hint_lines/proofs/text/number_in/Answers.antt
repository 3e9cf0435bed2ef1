use Rattle.std.proofs.Common.{sym, arith, ◌<◌, length}
use Rattle.rg_hint_lines.proofs.NumberSteps.{no_number}
use Rattle.rg_hint_lines.proofs.FieldFronts.{more_than_digits, field_number_is}
use Rattle.rg_hint_lines.proofs.TextSteps.{some_left}
use Rattle.rg_hint_lines.proofs.text.number_in.Goals as goal

pub returns-then-count-field-clause-value : goal.returns-then-count-field-clause-value
returns-then-count-field-clause-value c =
    no_number c.args.field.now (more_than_digits c.args.field.now (omega (arith, c.leading_number-number.ensures.count, c.if-count-field.true)))

pub returns-clause-value : goal.returns-clause-value
returns-clause-value c =
    let n = c.leading_number-number in
    let field = c.args.field.now in
    let some : 0 < length field = some_left field c.is_empty.result c.is_empty.ensures c.if-is_empty.false in
    sym (field_number_is field n.result.1 n.result.0 n.ensures.count (λ h. omega (arith, h, c.if-count-field.false)) n.ensures.bound n.ensures.number some (omega (arith, c.if-number-gt-MOST.false)))
