use Rattle.std.proofs.Common.{rules}
use Rattle.rg_tree.specs.Conditions.{condition_tree}
use Rattle.rg_find.specs.Found.{IsFound}
use Rattle.rg_find.specs.declared.answer.Found.TheVariants.{Lines, Values}
use Rattle.rg_find.proofs.Judging.{condition_proved, condition_refuted}
use Rattle.rg_find.proofs.judgement.judge.Goals as goal

pub returns-in-Lines-clause-judged : goal.returns-in-Lines-clause-judged
returns-in-Lines-clause-judged g c =
    let found : IsFound c.in-Ok.clauses (Lines c.in-Lines.lines) = search rules in
    condition_proved (condition_tree c.args.condition.now) c.in-Ok.clauses c.in-Lines.lines c.in-Ok.ensures.exact c.in-Ok.ensures.unsatisfiable found

pub returns-in-Values-clause-judged : goal.returns-in-Values-clause-judged
returns-in-Values-clause-judged g c =
    let found : IsFound c.in-Ok.clauses (Values c.in-Values.values) = search rules in
    condition_refuted (condition_tree c.args.condition.now) c.in-Ok.clauses c.in-Values.values.items c.deref.result.now _ _ c.deref.ensures.value c.in-Ok.ensures.fails found
    c.in_ok-first-in-Values.ensures.first c.in_ok-first-in-Values.ensures.second c.in_ok-first-in-Values.ensures.pair
