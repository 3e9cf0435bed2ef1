use Rattle.std.proofs.Common.{◌++◌, ◌∷◌, [], ◌+◌, ◌-◌, false, sym, ap, ◌∙◌, append_assoc, arith}
use Rattle.rg_gates.specs.declared.Lit.TheVariants.{Variable}
use Rattle.rg_rows.specs.Inputs.{variables}
use Rattle.rg_rows.proofs.InputRows.{variables_next}
use Rattle.rg_rows.proofs.input_rows.variable_row.Goals as goal

pub loop-i-preserved : goal.loop-i-preserved
loop-i-preserved c =
    let l = c.loop-i in
    let n = c.args.after in
    let w = c.args.width in
    rw c.in_ok-push.ensures.items
    (l.invariant ∙ ap (λ xs. l.row.items ++ xs) (variables_next n w l.i (omega arith))
    ∙ sym (append_assoc l.row.items (Variable (n + l.i + 1) false ∷ []) (variables (n + (l.i + 1)) (w - (l.i + 1)))))
