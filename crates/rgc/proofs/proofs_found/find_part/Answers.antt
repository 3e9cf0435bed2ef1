use Rattle.std.proofs.Common.{◌≡◌, ◌∙◌, ◌+◌, ◌-◌, List, length, map, arith, ap, rules}
use Rattle.std.specs.Prelude.{String, string_bytes}
use Rattle.std.specs.Global.{Global}
use Rattle.rg_tree.specs.declared.condition.Condition.{Condition}
use Rattle.rg_tree.specs.Conditions.{condition_tree}
use Rattle.rg_accept.specs.Accepted.{conditions_of}
use Rattle.rg_accept.specs.Stages.{derived_program, derived_lines}
use Rattle.rgc.proofs.Search.{part_found, range_same, gave_up, range_refused, part_unsought}
use Rattle.rgc.proofs.proofs_found.find_part.Goals as goal

pub returns-in-Err-clause-refused : goal.returns-in-Err-clause-refused
returns-in-Err-clause-refused g c =
    let asked = conditions_of (derived_program c.args.derived.now) (derived_lines c.args.derived.now) in
    let count : c.len-count.result ≡ length c.in_ok-conditions.conditions.items = omega (arith, c.len-count.ensures, c.in_ok-conditions.conditions.ok.0) in
    range_refused c.in_ok-conditions.conditions.items asked c.args.first c.args.last c.args.settings.now.steps c.len-count.result c.in-Err.refusal c.in_ok-conditions.ensures.list count (λ range. absurd (cc (c.in-Err.ensures.accepts range))) c.in-Err.ensures.refused

pub returns-in-Err-search_in-clause-refused : goal.returns-in-Err-search_in-clause-refused
returns-in-Err-search_in-clause-refused g c =
    let asked = conditions_of (derived_program c.args.derived.now) (derived_lines c.args.derived.now) in
    let items = c.in_ok-conditions.conditions.items in
    let count : c.len-count.result ≡ length items = omega (arith, c.len-count.ensures, c.in_ok-conditions.conditions.ok.0) in
    let same : map condition_tree c.as_slice-all.result.now ≡ asked = ap (λ (xs : List Condition). map condition_tree xs) c.as_slice-all.ensures.value ∙ c.in_ok-conditions.ensures.list in
    let range = c.in-Ok.ensures.range in
    let first : c.args.first - 1 + 1 ≡ c.args.first = omega (arith, range.low) in
    part_unsought c.as_slice-all.result.now asked c.args.first c.args.last c.args.settings.now.steps (c.args.first - 1) c.in-Err-search_in.refusal same first
    (range_same items c.as_slice-all.result.now asked c.args.first c.args.last c.len-count.result c.in_ok-conditions.ensures.list c.as_slice-all.ensures.value range count)
    c.in-Err-search_in.ensures.refused

pub returns-then-branch-clause-found : goal.returns-then-branch-clause-found
returns-then-branch-clause-found g c =
    let asked = conditions_of (derived_program c.args.derived.now) (derived_lines c.args.derived.now) in
    let count : c.len-count.result ≡ length c.in_ok-conditions.conditions.items = omega (arith, c.len-count.ensures, c.in_ok-conditions.conditions.ok.0) in
    let lent = ap (λ (xs : List (String Global)). map string_bytes xs) c.deref.ensures.value in
    part_found c.in_ok-conditions.conditions.items c.as_slice-all.result.now asked c.args.first c.args.last c.len-count.result c.in_ok-conditions.ensures.list c.as_slice-all.ensures.value c.in-Ok.ensures.range count
    (map string_bytes c.in-Ok-search_in.found.pieces.items) (rw (← lent) (c.in_ok-are_proved.ensures.proved c.if-branch.true))

pub returns-clause-found : goal.returns-clause-found
returns-clause-found g c =
    let asked = conditions_of (derived_program c.args.derived.now) (derived_lines c.args.derived.now) in
    let items = c.in_ok-conditions.conditions.items in
    let count : c.len-count.result ≡ length items = omega (arith, c.len-count.ensures, c.in_ok-conditions.conditions.ok.0) in
    let same : map condition_tree c.as_slice-all.result.now ≡ asked = ap (λ (xs : List Condition). map condition_tree xs) c.as_slice-all.ensures.value ∙ c.in_ok-conditions.ensures.list in
    let range = range_same items c.as_slice-all.result.now asked c.args.first c.args.last c.len-count.result c.in_ok-conditions.ensures.list c.as_slice-all.ensures.value c.in-Ok.ensures.range count in
    let first : c.args.first - 1 + 1 ≡ c.args.first = omega (arith, range.low) in
    let others = rw (same, first) at c.in-Ok-search_in.ensures.others in
    let none : length c.in-Ok-search_in.found.unproved.items ≡ 0 = search rules in
    (range, gave_up asked c.args.first (c.args.last + 1) _ _ range.low (omega (arith, range.order)) (omega (arith, range.high)) none others (rw first at c.in_ok-lowest.ensures))
