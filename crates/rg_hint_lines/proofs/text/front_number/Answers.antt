use Rattle.std.proofs.Common.{◌∙◌, sym, arith}
use Rattle.rg_hint_lines.proofs.FieldFronts.{other_front, no_digits, too_great, front_number_is, after_is}
use Rattle.rg_hint_lines.proofs.text.front_number.Goals as goal
use Rattle.rg_hint_lines.proofs.text.front_number.Goals.{then-count-eq0-via-then-count-eq0, then-count-eq0-via-else-count-eq0+then-number-gt-MOST}

pub returns-then-begins_filled-clause-value : goal.returns-then-begins_filled-clause-value
returns-then-begins_filled-clause-value c =
    let n = c.leading_number-number in
    other_front c.args.bytes.now c.skip-rest.result.now n.result.1 n.ensures.count c.skip-rest.ensures (sym c.begins_filled.ensures ∙ c.if-begins_filled.true)

pub returns-then-count-eq0-clause-value : goal.returns-then-count-eq0-clause-value
returns-then-count-eq0-clause-value c =
    let n = c.leading_number-number in
    let ends = sym c.begins_filled.ensures ∙ c.if-begins_filled.false in
    elim c.then-count-eq0.branch [
      | then-count-eq0-via-then-count-eq0 w ↦
          no_digits c.args.bytes.now c.skip-rest.result.now n.result.1 n.ensures.count c.skip-rest.ensures ends w.if-count-eq0.true
      | then-count-eq0-via-else-count-eq0+then-number-gt-MOST w ↦
          too_great c.args.bytes.now c.skip-rest.result.now n.result.1 n.ensures.count c.skip-rest.ensures ends n.result.0 n.ensures.number (omega (arith, w.if-number-gt-MOST.true))
    ]

pub returns-clause-value : goal.returns-clause-value
returns-clause-value c =
    let n = c.leading_number-number in
    let ends = sym c.begins_filled.ensures ∙ c.if-begins_filled.false in (
      front_number_is c.args.bytes.now c.skip-rest.result.now n.result.1 n.ensures.count c.skip-rest.ensures ends n.result.0 n.ensures.number (omega (arith, c.if-count-eq0.false)) (omega (arith, c.if-number-gt-MOST.false)),
      after_is c.args.bytes.now c.skip-rest.result.now n.result.1 n.ensures.count c.skip-rest.ensures ends,
    )
