use Rattle.std.proofs.Common.{◌<◌, length, sym}
use Rattle.std.specs.Cow.{cow_slice_items}
use Rattle.rg_gates.specs.Circuit.{negation}
use Rattle.rg_gates.proofs.Growth.{Extends-refl, IsIn-negation}
use Rattle.rg_tree.specs.View.{expression, formula}
use Rattle.rg_rows.specs.declared.rows.BitOperation.TheVariants.{Pick}
use Rattle.rg_rows.specs.Build.{◌>>=◌, give}
use Rattle.rg_rows.specs.Within.{rows_of}
use Rattle.rg_rows.specs.Rows.{bits_of, inverted}
use Rattle.rg_bits.specs.Formulas.{row_of, literal_of, operated_of, moved_row, connected_of, compared_of}
use Rattle.rg_rows.proofs.RowsMean.{bits-grows}
use Rattle.rg_rows.proofs.RowsIn.{IsRowIn-number, IsRowIn-inverted}
use Rattle.rg_rows.proofs.RowsOf.{row_at}
use Rattle.rg_bits.proofs.Moved.{IsRowIn-moved}
use Rattle.rg_bits.proofs.FormulaSteps.{operated-grows, connected-grows, compared-grows}
use Rattle.rg_bits.proofs.TreeSteps.{word_in, binary-grows, picked-grows, choice-grows, both-connected-grows, both-compared-grows}
use Rattle.rg_rows.proofs.Building.{stopped, went_on, gave, ran_out, same_count}
use Rattle.rg_bits.proofs.expression.+build.Goals as goal

pub build_row-returns-in_err-number-in-Number : goal.build_row-returns-in_err-number-in-Number
unfolding row_of literal_of
build_row-returns-in_err-number-in-Number g t c =
    ran_out _ c.from_residual.ensures (Extends-refl _)

pub build_row-returns-in_ok-number-in-Number : goal.build_row-returns-in_ok-number-in-Number
unfolding row_of literal_of
build_row-returns-in_ok-number-in-Number g t c =
    let e = c.in_ok-number-in-Number.ensures.items in
    rw c.in-Number.is (gave _ e (IsRowIn-number _ _ e))

pub build_row-returns-in-Word : goal.build_row-returns-in-Word
unfolding row_of literal_of
build_row-returns-in-Word g t c =
    let at = row_at c.args.first.now c.in-Word.k c.index-first-k.result c.deref.result.now (rw c.in-Word.is at c.requires.words) c.index-first-k.is c.deref.ensures.value in
    rw c.in-Word.is (gave _ (sym at) (word_in c.args.gates.now (rows_of c.args.first.now) c.in-Word.k _ c.requires.first at))

pub build_row-returns-in-NextWord : goal.build_row-returns-in-NextWord
unfolding row_of literal_of
build_row-returns-in-NextWord g t c =
    let less : c.in-NextWord.k < length c.args.first.now = rw c.in-NextWord.is at c.requires.words in
    let at = row_at c.args.second.now c.in-NextWord.k c.index-second-k.result c.deref-in-NextWord.result.now (rw c.requires.same less) c.index-second-k.is c.deref-in-NextWord.ensures.value in
    rw c.in-NextWord.is (gave _ (sym at) (word_in c.args.gates.now (rows_of c.args.second.now) c.in-NextWord.k _ c.requires.second at))

pub build_row-returns-in_err-row-in-Inverse : goal.build_row-returns-in_err-row-in-Inverse
unfolding row_of literal_of
build_row-returns-in_err-row-in-Inverse g t c =
    rw c.in-Inverse.is (stopped _ c.in_err-row-in-Inverse.ensures c.from_residual-in_err-row-in-Inverse.ensures (rw c.deref-in-Inverse.ensures (same_count _)))

pub build_row-returns-in_err-invert-in-Inverse : goal.build_row-returns-in_err-invert-in-Inverse
unfolding row_of literal_of
build_row-returns-in_err-invert-in-Inverse g t c =
    ran_out _ c.from_residual-in_err-invert-in-Inverse.ensures c.build_row.ensures.extends

pub build_row-returns-in_ok-invert-in-Inverse : goal.build_row-returns-in_ok-invert-in-Inverse
unfolding row_of literal_of
build_row-returns-in_ok-invert-in-Inverse g t c =
    let e = rw c.deref-in-Inverse-2.ensures.value at c.in_ok-invert-in-Inverse.ensures.items in
    rw c.in-Inverse.is (went_on (row_of (expression c.in-Inverse.a.value) (rows_of c.args.first.now) (rows_of c.args.second.now)) (λ p. give (inverted p)) (rw c.deref-in-Inverse.ensures at c.in_ok-row-in-Inverse.ensures.built) c.build_row.ensures.extends
    (gave _ e (IsRowIn-inverted e c.in_ok-row-in-Inverse.ensures.within)))

pub build_row-returns-in_err-row-in-Shifted : goal.build_row-returns-in_err-row-in-Shifted
unfolding row_of literal_of
build_row-returns-in_err-row-in-Shifted g t c =
    rw c.in-Shifted.is (stopped _ c.in_err-row-in-Shifted.ensures c.from_residual-in_err-row-in-Shifted.ensures (rw c.deref-in-Shifted.ensures (same_count _)))

pub build_row-returns-in_err-move_row-in-Shifted : goal.build_row-returns-in_err-move_row-in-Shifted
unfolding row_of literal_of
build_row-returns-in_err-move_row-in-Shifted g t c =
    ran_out _ c.from_residual-in_err-move_row-in-Shifted.ensures c.build_row-in-Shifted.ensures.extends

pub build_row-returns-in_ok-move_row-in-Shifted : goal.build_row-returns-in_ok-move_row-in-Shifted
unfolding row_of literal_of
build_row-returns-in_ok-move_row-in-Shifted g t c =
    let e = rw c.deref-in-Shifted-2.ensures.value at c.in_ok-move_row-in-Shifted.ensures.items in
    rw c.in-Shifted.is (went_on (row_of (expression c.in-Shifted.a.value) (rows_of c.args.first.now) (rows_of c.args.second.now)) (λ p. give (moved_row c.in-Shifted.shift c.in-Shifted.count p)) (rw c.deref-in-Shifted.ensures at c.in_ok-row-in-Shifted.ensures.built) c.build_row-in-Shifted.ensures.extends
    (gave _ e (IsRowIn-moved c.in-Shifted.shift c.in-Shifted.count e c.in_ok-row-in-Shifted.ensures.within)))

pub build_row-returns-in_err-left-in-Binary : goal.build_row-returns-in_err-left-in-Binary
unfolding row_of literal_of
build_row-returns-in_err-left-in-Binary g t c =
    rw c.in-Binary.is (stopped _ c.in_err-left-in-Binary.ensures c.from_residual-in_err-left-in-Binary.ensures (rw c.deref-in-Binary.ensures (binary-grows c.in-Binary.operator (expression c.in-Binary.b.value) (rows_of c.args.first.now) (rows_of c.args.second.now) _ _)))

pub build_row-returns-in_err-right-in-Binary : goal.build_row-returns-in_err-right-in-Binary
unfolding row_of literal_of
build_row-returns-in_err-right-in-Binary g t c =
    rw c.in-Binary.is (went_on (row_of (expression c.in-Binary.a.value) (rows_of c.args.first.now) (rows_of c.args.second.now)) (λ p. ((row_of (expression c.in-Binary.b.value) (rows_of c.args.first.now) (rows_of c.args.second.now)) >>= λ q. operated_of c.in-Binary.operator p q)) (rw c.deref-in-Binary.ensures at c.in_ok-left-in-Binary.ensures.built) c.build_row-in-Binary.ensures.extends
    (stopped _ c.in_err-right-in-Binary.ensures c.from_residual-in_err-right-in-Binary.ensures (rw c.deref-in-Binary-2.ensures (operated-grows _ _ _ _))))

pub build_row-returns-in_ok-right-in-Binary : goal.build_row-returns-in_ok-right-in-Binary
unfolding row_of literal_of
build_row-returns-in_ok-right-in-Binary g t c =
    rw c.in-Binary.is (went_on (row_of (expression c.in-Binary.a.value) (rows_of c.args.first.now) (rows_of c.args.second.now)) (λ p. ((row_of (expression c.in-Binary.b.value) (rows_of c.args.first.now) (rows_of c.args.second.now)) >>= λ q. operated_of c.in-Binary.operator p q)) (rw c.deref-in-Binary.ensures at c.in_ok-left-in-Binary.ensures.built) c.build_row-in-Binary.ensures.extends
    (went_on (row_of (expression c.in-Binary.b.value) (rows_of c.args.first.now) (rows_of c.args.second.now)) (λ q. operated_of c.in-Binary.operator (cow_slice_items c.in_ok-left-in-Binary.left) q) (rw c.deref-in-Binary-2.ensures at c.in_ok-right-in-Binary.ensures.built) c.build_row-in-Binary-2.ensures.extends
    (rw (c.deref-in-Binary-3.ensures.value, c.deref-in-Binary-4.ensures.value) at c.operated.ensures)))

pub build_row-returns-in_err-condition-in-If : goal.build_row-returns-in_err-condition-in-If
unfolding row_of literal_of
build_row-returns-in_err-condition-in-If g t c =
    rw c.in-If.is (stopped _ c.in_err-condition-in-If.ensures c.from_residual-in_err-condition-in-If.ensures (rw c.deref-in-If.ensures (choice-grows (expression c.in-If.a.value) (expression c.in-If.b.value) (rows_of c.args.first.now) (rows_of c.args.second.now) _ _)))

pub build_row-returns-in_err-left-in-If : goal.build_row-returns-in_err-left-in-If
unfolding row_of literal_of
build_row-returns-in_err-left-in-If g t c =
    rw c.in-If.is (went_on (literal_of (formula c.in-If.f.value) (rows_of c.args.first.now) (rows_of c.args.second.now)) (λ l. ((row_of (expression c.in-If.a.value) (rows_of c.args.first.now) (rows_of c.args.second.now)) >>= λ p. ((row_of (expression c.in-If.b.value) (rows_of c.args.first.now) (rows_of c.args.second.now)) >>= λ q. bits_of (Pick l) p q))) (rw c.deref-in-If.ensures at c.in_ok-condition-in-If.ensures.built) c.build_literal.ensures.extends
    (stopped _ c.in_err-left-in-If.ensures c.from_residual-in_err-left-in-If.ensures (rw c.deref-in-If-2.ensures (picked-grows (expression c.in-If.b.value) (rows_of c.args.first.now) (rows_of c.args.second.now) _ _ _))))

pub build_row-returns-in_err-right-in-If : goal.build_row-returns-in_err-right-in-If
unfolding row_of literal_of
build_row-returns-in_err-right-in-If g t c =
    rw c.in-If.is (went_on (literal_of (formula c.in-If.f.value) (rows_of c.args.first.now) (rows_of c.args.second.now)) (λ l. ((row_of (expression c.in-If.a.value) (rows_of c.args.first.now) (rows_of c.args.second.now)) >>= λ p. ((row_of (expression c.in-If.b.value) (rows_of c.args.first.now) (rows_of c.args.second.now)) >>= λ q. bits_of (Pick l) p q))) (rw c.deref-in-If.ensures at c.in_ok-condition-in-If.ensures.built) c.build_literal.ensures.extends
    (went_on (row_of (expression c.in-If.a.value) (rows_of c.args.first.now) (rows_of c.args.second.now)) (λ p. ((row_of (expression c.in-If.b.value) (rows_of c.args.first.now) (rows_of c.args.second.now)) >>= λ q. bits_of (Pick c.in_ok-condition-in-If.condition) p q)) (rw c.deref-in-If-2.ensures at c.in_ok-left-in-If.ensures.built) c.build_row-in-If.ensures.extends
    (stopped _ c.in_err-right-in-If.ensures c.from_residual-in_err-right-in-If.ensures (rw c.deref-in-If-3.ensures (bits-grows _ _ _ _)))))

pub build_row-returns-in_ok-right-in-If : goal.build_row-returns-in_ok-right-in-If
unfolding row_of literal_of
build_row-returns-in_ok-right-in-If g t c =
    rw c.in-If.is (went_on (literal_of (formula c.in-If.f.value) (rows_of c.args.first.now) (rows_of c.args.second.now)) (λ l. ((row_of (expression c.in-If.a.value) (rows_of c.args.first.now) (rows_of c.args.second.now)) >>= λ p. ((row_of (expression c.in-If.b.value) (rows_of c.args.first.now) (rows_of c.args.second.now)) >>= λ q. bits_of (Pick l) p q))) (rw c.deref-in-If.ensures at c.in_ok-condition-in-If.ensures.built) c.build_literal.ensures.extends
    (went_on (row_of (expression c.in-If.a.value) (rows_of c.args.first.now) (rows_of c.args.second.now)) (λ p. ((row_of (expression c.in-If.b.value) (rows_of c.args.first.now) (rows_of c.args.second.now)) >>= λ q. bits_of (Pick c.in_ok-condition-in-If.condition) p q)) (rw c.deref-in-If-2.ensures at c.in_ok-left-in-If.ensures.built) c.build_row-in-If.ensures.extends
    (went_on (row_of (expression c.in-If.b.value) (rows_of c.args.first.now) (rows_of c.args.second.now)) (λ q. bits_of (Pick c.in_ok-condition-in-If.condition) (cow_slice_items c.in_ok-left-in-If.left) q) (rw c.deref-in-If-3.ensures at c.in_ok-right-in-If.ensures.built) c.build_row-in-If-2.ensures.extends
    (rw (c.deref-in-If-4.ensures.value, c.deref-in-If-5.ensures.value) at c.picked.ensures))))

pub build_literal-returns-in_err-build_literal-in-Not : goal.build_literal-returns-in_err-build_literal-in-Not
unfolding row_of literal_of
build_literal-returns-in_err-build_literal-in-Not g t c =
    rw c.in-Not.is (stopped _ c.in_err-build_literal-in-Not.ensures c.from_residual.ensures (rw c.deref.ensures (same_count _)))

pub build_literal-returns-in_ok-build_literal-in-Not : goal.build_literal-returns-in_ok-build_literal-in-Not
unfolding row_of literal_of
build_literal-returns-in_ok-build_literal-in-Not g t c =
    rw c.in-Not.is (went_on (literal_of (formula c.in-Not.f.value) (rows_of c.args.first.now) (rows_of c.args.second.now)) (λ l. give (negation l)) (rw c.deref.ensures at c.in_ok-build_literal-in-Not.ensures.built) c.build_literal.ensures.extends
    (gave _ c.negated.ensures (rw c.negated.ensures (IsIn-negation c.in_ok-build_literal-in-Not.ensures.within))))

pub build_literal-returns-in_err-left-in-Connect : goal.build_literal-returns-in_err-left-in-Connect
unfolding row_of literal_of
build_literal-returns-in_err-left-in-Connect g t c =
    rw c.in-Connect.is (stopped _ c.in_err-left-in-Connect.ensures c.from_residual-in_err-left-in-Connect.ensures (rw c.deref-in-Connect.ensures (both-connected-grows c.in-Connect.connective (formula c.in-Connect.g.value) (rows_of c.args.first.now) (rows_of c.args.second.now) _ _)))

pub build_literal-returns-in_err-right-in-Connect : goal.build_literal-returns-in_err-right-in-Connect
unfolding row_of literal_of
build_literal-returns-in_err-right-in-Connect g t c =
    rw c.in-Connect.is (went_on (literal_of (formula c.in-Connect.f.value) (rows_of c.args.first.now) (rows_of c.args.second.now)) (λ p. ((literal_of (formula c.in-Connect.g.value) (rows_of c.args.first.now) (rows_of c.args.second.now)) >>= λ q. connected_of c.in-Connect.connective p q)) (rw c.deref-in-Connect.ensures at c.in_ok-left-in-Connect.ensures.built) c.build_literal-in-Connect.ensures.extends
    (stopped _ c.in_err-right-in-Connect.ensures c.from_residual-in_err-right-in-Connect.ensures (rw c.deref-in-Connect-2.ensures (connected-grows _ _ _ _))))

pub build_literal-returns-in_ok-right-in-Connect : goal.build_literal-returns-in_ok-right-in-Connect
unfolding row_of literal_of
build_literal-returns-in_ok-right-in-Connect g t c =
    rw c.in-Connect.is (went_on (literal_of (formula c.in-Connect.f.value) (rows_of c.args.first.now) (rows_of c.args.second.now)) (λ p. ((literal_of (formula c.in-Connect.g.value) (rows_of c.args.first.now) (rows_of c.args.second.now)) >>= λ q. connected_of c.in-Connect.connective p q)) (rw c.deref-in-Connect.ensures at c.in_ok-left-in-Connect.ensures.built) c.build_literal-in-Connect.ensures.extends
    (went_on (literal_of (formula c.in-Connect.g.value) (rows_of c.args.first.now) (rows_of c.args.second.now)) (λ q. connected_of c.in-Connect.connective c.in_ok-left-in-Connect.left q) (rw c.deref-in-Connect-2.ensures at c.in_ok-right-in-Connect.ensures.built) c.build_literal-in-Connect-2.ensures.extends c.connect.ensures))

pub build_literal-returns-in_err-left-in-Compare : goal.build_literal-returns-in_err-left-in-Compare
unfolding row_of literal_of
build_literal-returns-in_err-left-in-Compare g t c =
    rw c.in-Compare.is (stopped _ c.in_err-left-in-Compare.ensures c.from_residual-in_err-left-in-Compare.ensures (both-compared-grows c.in-Compare.comparison (expression c.in-Compare.b) (rows_of c.args.first.now) (rows_of c.args.second.now) _ _))

pub build_literal-returns-in_err-right-in-Compare : goal.build_literal-returns-in_err-right-in-Compare
unfolding row_of literal_of
build_literal-returns-in_err-right-in-Compare g t c =
    rw c.in-Compare.is (went_on (row_of (expression c.in-Compare.a) (rows_of c.args.first.now) (rows_of c.args.second.now)) (λ p. ((row_of (expression c.in-Compare.b) (rows_of c.args.first.now) (rows_of c.args.second.now)) >>= λ q. compared_of c.in-Compare.comparison p q)) c.in_ok-left-in-Compare.ensures.built c.build_row.ensures.extends
    (stopped _ c.in_err-right-in-Compare.ensures c.from_residual-in_err-right-in-Compare.ensures (compared-grows _ _ _ _)))

pub build_literal-returns-in_ok-right-in-Compare : goal.build_literal-returns-in_ok-right-in-Compare
unfolding row_of literal_of
build_literal-returns-in_ok-right-in-Compare g t c =
    rw c.in-Compare.is (went_on (row_of (expression c.in-Compare.a) (rows_of c.args.first.now) (rows_of c.args.second.now)) (λ p. ((row_of (expression c.in-Compare.b) (rows_of c.args.first.now) (rows_of c.args.second.now)) >>= λ q. compared_of c.in-Compare.comparison p q)) c.in_ok-left-in-Compare.ensures.built c.build_row.ensures.extends
    (went_on (row_of (expression c.in-Compare.b) (rows_of c.args.first.now) (rows_of c.args.second.now)) (λ q. compared_of c.in-Compare.comparison (cow_slice_items c.in_ok-left-in-Compare.left) q) c.in_ok-right-in-Compare.ensures.built c.build_row-in-Compare.ensures.extends
    (rw (c.deref-in-Compare.ensures.value, c.deref-in-Compare-2.ensures.value) at c.compare.ensures)))
