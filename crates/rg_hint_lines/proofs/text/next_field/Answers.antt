use Rattle.std.proofs.Common.{◌≡◌, ◌<◌, ◌-◌, length, take, drop, not, [], ap, sym, ◌∙◌, arith}
use Rattle.std.proofs.lemmas.List.{length-drop}
use Rattle.std.specs.List.{prefix_len}
use Rattle.rg_hint_lines.specs.Text.{is_blank, fields_of}
use Rattle.rg_hint_lines.proofs.TextSteps.{parts_skip, parts_take, front_filled, none_after, nothing_left, some_left, filled_some}
use Rattle.rg_hint_lines.proofs.text.next_field.Goals as goal

pub returns-then-is_empty-clause-fields : goal.returns-then-is_empty-clause-fields
returns-then-is_empty-clause-fields c =
    let line = c.args.line.now in
    let none : drop (prefix_len is_blank line) line ≡ [] =
    rw (c.skip-line.ensures, c.blank_len.ensures.value) at (nothing_left c.skip-line.result.now c.is_empty.result c.is_empty.ensures c.if-is_empty.true) in
    sym (parts_skip is_blank line) ∙ ap fields_of none

pub returns-clause-fields : goal.returns-clause-fields
returns-clause-fields c =
    let line = c.args.line.now in
    let after = c.skip-line.result.now in
    let skipped : fields_of line ≡ fields_of after = rw (c.skip-line.ensures, c.blank_len.ensures.value) (sym (parts_skip is_blank line)) in
    let first : prefix_len is_blank after ≡ 0 = rw (c.skip-line.ensures, c.blank_len.ensures.value) (none_after is_blank line) in
    let filled = front_filled is_blank after (some_left after c.is_empty.result c.is_empty.ensures c.if-is_empty.false) first in
    rw (c.split_at.ensures.front, c.split_at.ensures.back, c.field_len.ensures.value) (skipped ∙ parts_take is_blank after filled)

pub returns-clause-shorter : goal.returns-clause-shorter
returns-clause-shorter c =
    let after = c.skip-line.result.now in
    let first : prefix_len is_blank after ≡ 0 = rw (c.skip-line.ensures, c.blank_len.ensures.value) (none_after is_blank c.args.line.now) in
    let filled = front_filled is_blank after (some_left after c.is_empty.result c.is_empty.ensures c.if-is_empty.false) first in
    let some : 0 < length c.split_at.result.0.now = rw (c.split_at.ensures.front, c.field_len.ensures.value) (filled_some (take (prefix_len (λ b. not (is_blank b)) after) after) filled) in
    let size : length after ≡ length c.args.line.now - c.blank_len.result = rw c.skip-line.ensures (length-drop c.blank_len.result c.args.line.now) in
    omega (arith, some, size, c.split_at.ensures.front_len, c.split_at.ensures.back_len)

pub returns-clause-filled : goal.returns-clause-filled
returns-clause-filled c =
    let after = c.skip-line.result.now in
    let first : prefix_len is_blank after ≡ 0 = rw (c.skip-line.ensures, c.blank_len.ensures.value) (none_after is_blank c.args.line.now) in
    let filled = front_filled is_blank after (some_left after c.is_empty.result c.is_empty.ensures c.if-is_empty.false) first in
    rw (c.split_at.ensures.front, c.field_len.ensures.value) (filled_some (take (prefix_len (λ b. not (is_blank b)) after) after) filled)
