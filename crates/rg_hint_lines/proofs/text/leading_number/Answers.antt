use Rattle.std.proofs.Common.{◌≡◌, ◌+◌, get_or, take, arith, sym, ◌∙◌}
use Rattle.std.specs.Str.Parse.{digits_value}
use Rattle.std.proofs.lemmas.Int.Digits.{digits_value_more}
use Rattle.rg_hint_lines.proofs.NumberSteps.{digits_more, digit_is, digits_end}
use Rattle.rg_hint_lines.proofs.text.leading_number.Goals as goal
use Rattle.rg_hint_lines.proofs.text.leading_number.Goals.{then-number-le-MOST, else-number-le-MOST}

pub loop-byte-preserved : goal.loop-byte-preserved
loop-byte-preserved c =
    let bytes = c.args.bytes.now in
    let i = c.loop-byte.byte-index in
    let is = sym c.is_ascii_digit.ensures.value ∙ c.if-not-is_ascii_digit.false in
    let digit = digit_is (get_or bytes i 0) is in
    let value = digits_value_more 10 bytes i c.loop-byte-test.true in
    elim c.if-number-le-MOST.branch [
      | then-number-le-MOST w ↦
          let small = c.loop-byte.invariant.small w.if-number-le-MOST.true in
          let now : c.if-number-le-MOST.number ≡ digits_value 10 (take (i + 1) bytes) = omega (arith, value, digit.2, digit.0, small, w.number-is, w.from.ensures) in
          record {
            count = omega (arith, c.loop-byte.invariant.count);
            digits = digits_more bytes i c.loop-byte-test.true c.loop-byte.invariant.digits is;
            bound = omega (arith, w.number-is, w.from.ensures, w.if-number-le-MOST.true, digit.1);
            small = λ _. now;
            large = λ h. omega (arith, now, h);
          }
      | else-number-le-MOST w ↦
          let large = c.loop-byte.invariant.large w.if-number-le-MOST.false in
          record {
            count = omega (arith, c.loop-byte.invariant.count);
            digits = digits_more bytes i c.loop-byte-test.true c.loop-byte.invariant.digits is;
            bound = rw w.number-is c.loop-byte.invariant.bound;
            small = λ h. absurd (omega (arith, w.if-number-le-MOST.false, w.number-is, h));
            large = λ h. omega (arith, value, large);
          }
    ]

pub returns-then-not-is_ascii_digit-clause-count :
    goal.returns-then-not-is_ascii_digit-clause-count
returns-then-not-is_ascii_digit-clause-count c =
    let i = c.loop-byte.byte-index in
    c.loop-byte.invariant.count
    ∙ digits_end c.args.bytes.now i (omega (arith, c.loop-byte-test.true)) c.loop-byte.invariant.digits (λ _. sym c.is_ascii_digit.ensures.value ∙ c.if-not-is_ascii_digit.true)

pub returns-clause-count : goal.returns-clause-count
returns-clause-count c =
    let i = c.loop-byte.byte-index in
    c.loop-byte.invariant.count
    ∙ digits_end c.args.bytes.now i (omega (arith, c.loop-byte.auto.byte-index-end)) c.loop-byte.invariant.digits (λ l. absurd (omega (arith, l, c.loop-byte-test.false)))
