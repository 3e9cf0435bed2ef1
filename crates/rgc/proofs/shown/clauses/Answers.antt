use Rattle.std.proofs.Common.{◌<◌, inl, inr, ap, subst, ⊎_elim, arith, Err}
use Rattle.rg_tree.specs.Conditions.{ConditionHolds, ConditionTree}
use Rattle.rg_clauses.specs.Conditions.{clauses_of_condition}
use Rattle.rg_words.specs.declared.limits.TheConstants.{MOST_VARIABLES}
use Rattle.rgc.proofs.OneList.{shown_moves}
use Rattle.rgc.proofs.shown.clauses.Goals as goal

pub returns-in-Err-clause-accepts : goal.returns-in-Err-clause-accepts
returns-in-Err-clause-accepts c = λ words f sp within. c.in-Err.ensures.accepts words f sp

pub returns-in-Ok-of-clause-holds : goal.returns-in-Ok-of-clause-holds
returns-in-Ok-of-clause-holds c = λ u words f sp.
    let same = c.one_meaning.ensures.show c.args.text.now _ words _ f c.in-Ok.ensures.spells sp in
    let condition_is = shown_moves _ _ words _ f c.show-condition.ensures same in
    subst (λ (d : ConditionTree). ConditionHolds d) condition_is (c.in-Ok-of.ensures.unsatisfiable.0 u)

pub returns-clause-refused : goal.returns-clause-refused
returns-clause-refused c =
    ⊎_elim (λ m. inl (inl (inr (inr m))))
    (λ e. inr (_, _, c.in-Ok.ensures.spells, subst (λ (d : ConditionTree). MOST_VARIABLES < (clauses_of_condition d).variables) c.show-condition.ensures (c.in-Err-of.ensures.limit (ap Err e)), e))
    c.in-Err-of.ensures.refusal

pub returns-clause-accepts : goal.returns-clause-accepts
returns-clause-accepts c = λ words f sp within.
    let same = c.one_meaning.ensures.show c.args.text.now _ words _ f c.in-Ok.ensures.spells sp in
    let condition_is = shown_moves _ _ words _ f c.show-condition.ensures same in
    ⊎_elim (λ m. m)
    (λ e. let past = subst (λ (d : ConditionTree). MOST_VARIABLES < (clauses_of_condition d).variables) condition_is (c.in-Err-of.ensures.limit (ap Err e)) in absurd (omega (arith, past, within)))
    c.in-Err-of.ensures.refusal
