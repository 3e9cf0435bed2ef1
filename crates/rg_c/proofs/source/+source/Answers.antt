use Rattle.std.proofs.Common.{◌++◌, ap, sym, ◌∙◌, append-nil, string_bytes}
use Rattle.std.specs.Fmt.{decimal}
use Rattle.rg_tree.specs.View.{expression, formula}
use Rattle.rg_tree.specs.Printed.{expression_text, formula_text}
use Rattle.rg_tree.proofs.Texts.{expression_then, formula_then, decimal_then, pair_pushed, choice_pushed}
use Rattle.rg_c.proofs.source.+source.Goals as goal

pub push_formula-returns-in_ok-push_str-in-Connect-2 : goal.push_formula-returns-in_ok-push_str-in-Connect-2
push_formula-returns-in_ok-push_str-in-Connect-2 t c =
    let words = c.args.layout.now in
    let f = formula c.deref-in-Connect.result.now in
    let g = formula c.deref-in-Connect-2.result.now in
    rw (c.in-Connect.is, ← c.connective_text.ensures, ← c.deref-in-Connect.ensures, ← c.deref-in-Connect-2.ensures)
    (pair_pushed (formula_text words f) (formula_text words g) (formula_then words f) (formula_then words g) _ _ _ _ _ _ _
    c.in_ok-push_str-in-Connect.ensures.bytes c.in_ok-push_formula-in-Connect.ensures c.in_ok-push_between-in-Connect.ensures c.in_ok-push_formula-in-Connect-2.ensures c.in_ok-push_str-in-Connect-2.ensures.bytes)

pub push_formula-returns-in_ok-push_str-in-Compare-2 : goal.push_formula-returns-in_ok-push_str-in-Compare-2
push_formula-returns-in_ok-push_str-in-Compare-2 t c =
    let words = c.args.layout.now in
    let a = expression c.in-Compare.a in
    let b = expression c.in-Compare.b in
    rw (c.in-Compare.is, ← c.comparison_text.ensures)
    (pair_pushed (expression_text words a) (expression_text words b) (expression_then words a) (expression_then words b) _ _ _ _ _ _ _
    c.in_ok-push_str-in-Compare.ensures.bytes c.in_ok-push_expression-in-Compare.ensures c.in_ok-push_between-in-Compare.ensures c.in_ok-push_expression-in-Compare-2.ensures c.in_ok-push_str-in-Compare-2.ensures.bytes)

pub push_expression-returns-in_ok-push_str-in-Binary-2 : goal.push_expression-returns-in_ok-push_str-in-Binary-2
push_expression-returns-in_ok-push_str-in-Binary-2 t c =
    let words = c.args.layout.now in
    let a = expression c.deref-in-Binary.result.now in
    let b = expression c.deref-in-Binary-2.result.now in
    rw (c.in-Binary.is, ← c.operator_text.ensures, ← c.deref-in-Binary.ensures, ← c.deref-in-Binary-2.ensures)
    (pair_pushed (expression_text words a) (expression_text words b) (expression_then words a) (expression_then words b) _ _ _ _ _ _ _
    c.in_ok-push_str-in-Binary.ensures.bytes c.in_ok-push_expression-in-Binary.ensures c.in_ok-push_between-in-Binary.ensures c.in_ok-push_expression-in-Binary-2.ensures c.in_ok-push_str-in-Binary-2.ensures.bytes)

pub push_expression-returns-in_ok-push_str-in-Shifted-2 : goal.push_expression-returns-in_ok-push_str-in-Shifted-2
push_expression-returns-in_ok-push_str-in-Shifted-2 t c =
    let words = c.args.layout.now in
    let a = expression c.deref-in-Shifted.result.now in
    rw (c.in-Shifted.is, ← c.shift_text.ensures, ← c.deref-in-Shifted.ensures, ← c.from.ensures)
    (pair_pushed (expression_text words a) (λ rest. decimal c.from.result ++ rest) (expression_then words a) (decimal_then c.from.result) _ _ _ _ _ _ _
    c.in_ok-push_str-in-Shifted.ensures.bytes c.in_ok-push_expression-in-Shifted.ensures c.in_ok-push_between-in-Shifted.ensures (c.in_ok-push_digits-in-Shifted.ensures ∙ ap (λ d. string_bytes c.push_between-in-Shifted.new.text ++ d) (sym (append-nil (decimal c.from.result)))) c.in_ok-push_str-in-Shifted-2.ensures.bytes)

pub push_expression-returns-in_ok-push_str-in-If-2 : goal.push_expression-returns-in_ok-push_str-in-If-2
push_expression-returns-in_ok-push_str-in-If-2 t c =
    let words = c.args.layout.now in
    let f = formula c.deref-in-If.result.now in
    let a = expression c.deref-in-If-2.result.now in
    let b = expression c.deref-in-If-3.result.now in
    rw (c.in-If.is, ← c.deref-in-If.ensures, ← c.deref-in-If-2.ensures, ← c.deref-in-If-3.ensures)
    (choice_pushed (formula_text words f) (expression_text words a) (expression_text words b) (formula_then words f) (expression_then words a) (expression_then words b) _ _ _ _ _ _ _ _
    c.in_ok-push_str-in-If.ensures.bytes c.in_ok-push_formula-in-If.ensures c.in_ok-push_between-in-If.ensures c.in_ok-push_expression-in-If.ensures c.in_ok-push_between-in-If-2.ensures c.in_ok-push_expression-in-If-2.ensures c.in_ok-push_str-in-If-2.ensures.bytes)
