use Rattle.std.proofs.Common.{[], ◌∷◌}
use Rattle.rg_tree.proofs.Numbers.{adds_then}
use Rattle.rg_tree.specs.View.{formula}
use Rattle.rg_tree.specs.Statements.{sequence, branch}
use Rattle.rg_tree.specs.ProgramView.{statement, items}
use Rattle.rg_tree.specs.Numbering.{statements, statements_of_items}
use Rattle.rg_tree.proofs.numbered.+numbered.Goals as goal

pub push_items-returns-in_ok-push_items-in-More : goal.push_items-returns-in_ok-push_items-in-More
push_items-returns-in_ok-push_items-in-More t c =
    rw c.in-More.is (adds_then _ (statements (statement c.in-More.s.value)) _ _ _ _ (rw c.deref-in-More.ensures at c.in_ok-push_statement-in-More.ensures) (rw c.deref-in-More-2.ensures at c.in_ok-push_items-in-More.ensures))

pub push_statement-returns-in_ok-push_items-in-Seq : goal.push_statement-returns-in_ok-push_items-in-Seq
push_statement-returns-in_ok-push_items-in-Seq t c =
    rw c.in-Seq.is (adds_then _ (sequence c.in-Seq.field-0 (statement c.in-Seq.first.value) (items c.in-Seq.rest.value) ∷ []) _ _ _ _ (rw c.in-Seq.is at c.in_ok-push_one.ensures)
    (adds_then _ (statements (statement c.in-Seq.first.value)) _ _ _ _ (rw c.deref.ensures at c.in_ok-push_statement-in-Seq.ensures) (rw c.deref-in-Seq.ensures at c.in_ok-push_items-in-Seq.ensures)))

pub push_statement-returns-in_ok-push_statement-in-If-2 : goal.push_statement-returns-in_ok-push_statement-in-If-2
push_statement-returns-in_ok-push_statement-in-If-2 t c =
    rw c.in-If.is (adds_then _ (branch c.in-If.field-0 (formula c.in-If.field-1) (statement c.in-If.first.value) (statement c.in-If.second.value) ∷ []) _ _ _ _ (rw c.in-If.is at c.in_ok-push_one.ensures)
    (adds_then _ (statements (statement c.in-If.first.value)) _ _ _ _ (rw c.deref-in-If.ensures at c.in_ok-push_statement-in-If.ensures) (rw c.deref-in-If-2.ensures at c.in_ok-push_statement-in-If-2.ensures)))
