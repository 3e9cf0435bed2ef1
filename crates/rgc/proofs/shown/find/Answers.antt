use Rattle.std.proofs.Common.{subst}
use Rattle.rg_tree.specs.Conditions.{ConditionTree, ConditionHolds}
use Rattle.rgc.proofs.OneList.{shown_moves}
use Rattle.rgc.proofs.Found.{find_refused}
use Rattle.rgc.proofs.shown.find.Goals as goal

pub returns-in-Ok-judge-clause-holds : goal.returns-in-Ok-judge-clause-holds
returns-in-Ok-judge-clause-holds g c = λ h words f sp.
    let same = c.one_meaning.ensures.show c.args.text.now _ words _ f c.in-Ok.ensures.spells sp in
    let condition_is = shown_moves _ _ words _ f c.show-condition.ensures same in
    subst (λ (d : ConditionTree). ConditionHolds d) condition_is h

pub returns-in-Err-judge-clause-refused : goal.returns-in-Err-judge-clause-refused
returns-in-Err-judge-clause-refused g c =
    find_refused c.args.text.now c.args.steps _ _ _ c.in-Err-judge.refusal c.in-Ok.ensures.spells c.show-condition.ensures c.in-Err-judge.ensures.refusal
