use Rattle.std.proofs.Common.{List, length, sym, ap, ◌∙◌, subst, arith}
use Rattle.std.proofs.lemmas.Result.{IfOk-weaker}
use Rattle.rg_gates.specs.declared.Lit.{Lit}
use Rattle.rg_tree.specs.Conditions.{condition_tree, second_state}
use Rattle.rg_rows.specs.Within.{AreRowsIn, rows_of}
use Rattle.rg_rows.specs.Inputs.{second_width}
use Rattle.rg_rows.proofs.RowsOf.{length-rows_of}
use Rattle.rg_rows.proofs.InputRows.{first_in}
use Rattle.rg_bits.proofs.FormulaLaw.{row_counts, condition_law, before_in, length-before_rows}
use Rattle.rg_gates.proofs.Growth.{Extends-refl}
use Rattle.rg_rows.proofs.Building.{ran_out}
use Rattle.rg_bits.proofs.Pairs.{pairs_law}
use Rattle.rg_bits.proofs.condition.formula.Goals as goal

pub build_implication-requires-clause-size : goal.build_implication-requires-clause-size
build_implication-requires-clause-size g c =
    let words = c.args.condition.now.layout in
    let first = c.in_ok-first.ensures.rows in
    row_counts c.deref-2.result.now words (ap rows_of c.deref-2.ensures.value ∙ first)

pub build_implication-requires-clause-same : goal.build_implication-requires-clause-same
build_implication-requires-clause-same g c =
    sym (length-rows_of c.in_ok-second.second.items) ∙ ap length c.in_ok-second.ensures.rows ∙ length-before_rows (second_state c.args.condition.now.second) c.args.condition.now.layout

pub build_implication-requires-clause-first : goal.build_implication-requires-clause-first
build_implication-requires-clause-first g c =
    let words = c.args.condition.now.layout in
    let first = c.in_ok-first.ensures.rows in
    let P : List (List Lit) → Type 0 = λ rows. AreRowsIn c.args.gates.now rows in
    subst P (sym (ap rows_of c.deref-2.ensures.value ∙ first)) (first_in c.args.gates.now 0 words (omega (arith, c.requires.inputs)))

pub build_implication-requires-clause-second : goal.build_implication-requires-clause-second
build_implication-requires-clause-second g c =
    let words = c.args.condition.now.layout in
    let kind = second_state c.args.condition.now.second in
    let P : List (List Lit) → Type 0 = λ rows. AreRowsIn c.args.gates.now rows in
    subst P (sym c.in_ok-second.ensures.rows)
    (before_in c.args.gates.now kind words (omega (arith, c.requires.inputs)) (λ e. omega (arith, c.requires.inputs, ap (λ k. second_width k words) e)))

pub returns-in_err-first-clause-builds : goal.returns-in_err-first-clause-builds
returns-in_err-first-clause-builds g c = ran_out _ c.from_residual.ensures (Extends-refl _)

pub returns-in_err-second-clause-builds : goal.returns-in_err-second-clause-builds
returns-in_err-second-clause-builds g c = ran_out _ c.from_residual-in_err-second.ensures (Extends-refl _)

pub returns-clause-builds : goal.returns-clause-builds
returns-clause-builds g c =
    let rows = ap rows_of c.deref-2.ensures.value ∙ c.in_ok-first.ensures.rows in
    rw (rows, c.in_ok-second.ensures.rows) at c.build_implication.ensures

pub returns-clause-meaning : goal.returns-clause-meaning
returns-clause-meaning g c =
    let whole = condition_tree c.args.condition.now in
    let first = c.in_ok-first.ensures.rows in
    let rows = ap rows_of c.deref-2.ensures.value ∙ first in
    IfOk-weaker c.build_implication.result _ _
    (λ l e values hold. condition_law whole c.args.gates.now c.build_implication.new.gates l c.args.condition.now.typed (rw (rows, c.in_ok-second.ensures.rows) at e) values hold)
    c.build_implication.ensures.built

pub returns-clause-pairs : goal.returns-clause-pairs
returns-clause-pairs g c =
    let whole = condition_tree c.args.condition.now in
    let first = c.in_ok-first.ensures.rows in
    let rows = ap rows_of c.deref-2.ensures.value ∙ first in
    IfOk-weaker c.build_implication.result _ _
    (λ l e s t one two agree values rest hold bits. pairs_law whole c.args.gates.now c.build_implication.new.gates l c.args.condition.now.typed (rw (rows, c.in_ok-second.ensures.rows) at e) s t one two agree values rest hold bits)
    c.build_implication.ensures.built
