use Rattle.std.proofs.Common.{◌≡◌, ◌<◌, length, take, drop, not, [], ◌∷◌, eqb, ◌++◌, ap, sym, refl, inr, ◌∙◌, arith, List, ℕ}
use Rattle.std.specs.List.{prefix_len}
use Rattle.std.specs.Str.Lines.{lines}
use Rattle.rg_hint_lines.proofs.TextSteps.{last_line, next_line, nothing_left, some_left}
use Rattle.rg_hint_lines.proofs.LineCuts.{front_last, front_line, text_cut}
use Rattle.rg_hint_lines.proofs.text.split_line.Goals as goal

pub returns-then-is_empty-clause-lines : goal.returns-then-is_empty-clause-lines
returns-then-is_empty-clause-lines c =
    let text = c.args.text.now in
    let n = prefix_len (λ b. not (eqb b 10)) text in
    let none = nothing_left c.split_at.result.1.now c.is_empty.result c.is_empty.ensures c.if-is_empty.true in
    let after : drop n text ≡ [] = rw (c.split_at.ensures.back, c.line_len-end.ensures.value) at none in
    let some : 0 < length c.split_at.result.0.now = omega (arith, c.requires, c.split_at.ensures.front_len, c.split_at.ensures.back_len, ap length none) in
    let size : 0 < length (take n text) = rw (c.split_at.ensures.front, c.line_len-end.ensures.value) at some in
    rw (c.split_at.ensures.front, c.split_at.ensures.back, c.line_len-end.ensures.value) (last_line text size after ∙ ap (λ (ys : List ℕ). take n text ∷ lines ys) (sym after))

pub returns-clause-lines : goal.returns-clause-lines
returns-clause-lines c =
    let text = c.args.text.now in
    let n = prefix_len (λ b. not (eqb b 10)) text in
    let some = some_left c.split_at.result.1.now c.is_empty.result c.is_empty.ensures c.if-is_empty.false in
    let after : 0 < length (drop n text) = rw (c.split_at.ensures.back, c.line_len-end.ensures.value) at some in
    rw (c.strip_carriage_return.ensures, c.skip.ensures, c.split_at.ensures.front, c.split_at.ensures.back, c.line_len-end.ensures.value) (next_line text after)

pub returns-then-is_empty-clause-front : goal.returns-then-is_empty-clause-front
returns-then-is_empty-clause-front c =
    front_last c.args.text.now c.split_at.result.0.now c.split_at.result.1.now (nothing_left c.split_at.result.1.now c.is_empty.result c.is_empty.ensures c.if-is_empty.true) (returns-then-is_empty-clause-lines c)

pub returns-clause-front : goal.returns-clause-front
returns-clause-front c =
    let text = c.args.text.now in
    let n = prefix_len (λ b. not (eqb b 10)) text in
    let some = some_left c.split_at.result.1.now c.is_empty.result c.is_empty.ensures c.if-is_empty.false in
    let after : 0 < length (drop n text) = rw (c.split_at.ensures.back, c.line_len-end.ensures.value) at some in
    let cut : text ≡ (take n text ++ 10 ∷ []) ++ c.skip.result.now = rw (c.skip.ensures, c.split_at.ensures.back, c.line_len-end.ensures.value) (text_cut text after) in
    front_line text (take n text ++ 10 ∷ []) c.strip_carriage_return.result.now c.skip.result.now cut (inr (take n text, refl)) (returns-clause-lines c)
