use Rattle.std.proofs.Common.{◌≡◌, ◌∙◌, ◌+◌, List, ap, arith, length, map, rules, subst}
use Rattle.std.specs.Prelude.{String, string_bytes}
use Rattle.std.specs.Global.{Global}
use Rattle.rg_tree.specs.declared.condition.Condition.{Condition}
use Rattle.rg_tree.specs.Conditions.{condition_tree}
use Rattle.rg_tree.specs.RuleConditions.{AllConditionsHold}
use Rattle.rg_accept.specs.Accepted.{conditions_of}
use Rattle.rg_accept.specs.Stages.{derived_program, derived_lines}
use Rattle.rg_accept.proofs.Asked.{some_condition}
use Rattle.rgc.proofs.Search.{count_same, all_refused, all_found, gave_up}
use Rattle.rgc.proofs.proofs_found.find_proofs.Goals as goal

pub returns-then-branch-clause-satisfied : goal.returns-then-branch-clause-satisfied
returns-then-branch-clause-satisfied g c =
    c.in_ok-conditions.ensures.sound (subst (λ (xs : List Condition). AllConditionsHold (map condition_tree xs)) c.as_slice-all.ensures.value (c.in_ok-are_proved.ensures.holds c.if-branch.true))

pub returns-in-Err-clause-refused : goal.returns-in-Err-clause-refused
returns-in-Err-clause-refused g c =
    let asked = conditions_of (derived_program c.args.derived.now) (derived_lines c.args.derived.now) in
    let same : map condition_tree c.as_slice-all.result.now ≡ asked = ap (λ (xs : List Condition). map condition_tree xs) c.as_slice-all.ensures.value ∙ c.in_ok-conditions.ensures.list in
    all_refused c.as_slice-all.result.now asked c.args.steps c.in-Err.refusal same c.in-Err.ensures.refused

pub returns-then-branch-clause-found : goal.returns-then-branch-clause-found
returns-then-branch-clause-found g c =
    let asked = conditions_of (derived_program c.args.derived.now) (derived_lines c.args.derived.now) in
    let same : map condition_tree c.as_slice-all.result.now ≡ asked = ap (λ (xs : List Condition). map condition_tree xs) c.as_slice-all.ensures.value ∙ c.in_ok-conditions.ensures.list in
    let count : c.len-count.result ≡ length c.as_slice-all.result.now = search rules in
    let lent = ap (λ (xs : List (String Global)). map string_bytes xs) c.deref.ensures.value in
    all_found c.as_slice-all.result.now asked c.len-count.result (map string_bytes c.in-Ok.found.pieces.items) same count (rw (← lent) (c.in_ok-are_proved.ensures.proved c.if-branch.true))

pub returns-clause-found : goal.returns-clause-found
returns-clause-found g c =
    let asked = conditions_of (derived_program c.args.derived.now) (derived_lines c.args.derived.now) in
    let same : map condition_tree c.as_slice-all.result.now ≡ asked = ap (λ (xs : List Condition). map condition_tree xs) c.as_slice-all.ensures.value ∙ c.in_ok-conditions.ensures.list in
    let count : c.len-count.result ≡ length c.as_slice-all.result.now = search rules in
    let size = count_same c.as_slice-all.result.now asked c.len-count.result same count in
    let some = some_condition (derived_program c.args.derived.now) (derived_lines c.args.derived.now) in
    let others = rw (same, size) at c.in-Ok.ensures.others in
    let none : length c.in-Ok.found.unproved.items ≡ 0 = search rules in
    gave_up asked 1 (length asked + 1) _ _ (omega arith) (omega (arith, some)) (omega arith) none others c.in_ok-first.ensures
