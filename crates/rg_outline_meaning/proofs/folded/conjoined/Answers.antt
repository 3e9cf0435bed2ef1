use Rattle.std.proofs.Common.{◌≡◌, refl, sym, ap, ◌∙◌, true, false, List, [], ◌∷◌, ◌++◌, subst, map}
use Rattle.std.proofs.lemmas.Result.{IfOk-weaker}
use Rattle.rg_words.specs.declared.operators.Connective.TheVariants.{And}
use Rattle.rg_tree.specs.Trees.{Proposition, connected}
use Rattle.rg_tree.specs.View.{formula}
use Rattle.rg_outline_meaning.specs.Meanings.{IsConjunctionAfter, true_passed, equal_passed, taken}
use Rattle.rg_outline_meaning.proofs.Conjunctions.{beside_true, beside_other}
use Rattle.rg_outline_meaning.proofs.folded.conjoined.Goals as goal
use Rattle.rg_outline_meaning.proofs.folded.conjoined.Goals.{then-is_true-via-then-is_true, then-is_true-via-else-is_true+then-has_equal}

pub returns-then-is_true : goal.returns-then-is_true
returns-then-is_true c = λ rest r h. elim c.then-is_true.branch [
  | then-is_true-via-then-is_true w ↦ true_passed _ _ _ _ _ (sym w.if-is_true.ensures) h
  | then-is_true-via-else-is_true+then-has_equal w ↦ equal_passed _ _ _ _ _ (w.if-has_equal.ensures.yes refl) h
]

pub returns-then-is_true-2 : goal.returns-then-is_true-2
returns-then-is_true-2 c = λ rest r h.
    let same = c.in_ok-next.ensures ∙ sym (beside_true (formula c.args.made) (formula c.args.formula.now) (sym c.if-is_true-2.ensures)) in
    taken _ _ _ _ _ (sym c.if-is_true.ensures) (c.if-has_equal.ensures.no refl) (subst (λ p. IsConjunctionAfter (map formula c.args.earlier.now ++ formula c.args.formula.now ∷ []) p rest r) same h)

pub returns : goal.returns
returns c = IfOk-weaker c.connected.result _ _ (λ f is. λ rest r h.
    let same = is ∙ ap (λ q. connected And (formula c.args.made) q) c.in_ok-next.ensures ∙ sym (beside_other (formula c.args.made) (formula c.args.formula.now) (sym c.if-is_true-2.ensures)) in
    taken _ _ _ _ _ (sym c.if-is_true.ensures) (c.if-has_equal.ensures.no refl) (subst (λ p. IsConjunctionAfter (map formula c.args.earlier.now ++ formula c.args.formula.now ∷ []) p rest r) same h)) c.connected.ensures
