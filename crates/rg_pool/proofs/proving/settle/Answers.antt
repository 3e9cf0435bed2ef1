use Rattle.std.proofs.Common.{◌<◌, ℕ, length, map, get_or, inr, arith}
use Rattle.std.proofs.lemmas.List.{length-map}
use Rattle.rg_tree.specs.ConditionTrees.{ConditionTree}
use Rattle.rg_tree.specs.Conditions.{condition_tree, ConditionHolds}
use Rattle.rg_hints.specs.Placed.{text_of}
use Rattle.rg_pool.proofs.VerdictSteps.{IsProvedAt, some_condition, below_next, all_from_each, each_from_all, first_refused_at, all_hold}
use Rattle.rg_pool.proofs.proving.settle.Goals as goal

pub returns-in-Err-clause-refused : goal.returns-in-Err-clause-refused
returns-in-Err-clause-refused g c =
    let cs = map condition_tree c.args.part.now.conditions.now in
    let small : c.loop-index.index < length cs = omega (arith, length-map c.args.part.now.conditions.now condition_tree) in
    inr (first_refused_at (map text_of c.args.part.now.sections.now) c.args.part.now.before cs c.in-Err.refusal c.loop-index.index small c.loop-index.invariant.proved (λ d. (c.in-Err.ensures d).refused))

pub returns-in-Err-clause-accepts : goal.returns-in-Err-clause-accepts
returns-in-Err-clause-accepts g c =
    let cs = map condition_tree c.args.part.now.conditions.now in
    let small : c.loop-index.index < length cs = omega (arith, length-map c.args.part.now.conditions.now condition_tree) in
    let d = some_condition cs c.loop-index.index small in
    λ all. (c.in-Err.ensures d).accepts (each_from_all (map text_of c.args.part.now.sections.now) c.args.part.now.before cs all c.loop-index.index small d)

pub loop-index-preserved : goal.loop-index-preserved
loop-index-preserved g c =
    let cs = map condition_tree c.args.part.now.conditions.now in
    record {
      proved = below_next (λ (i : ℕ). IsProvedAt (map text_of c.args.part.now.sections.now) c.args.part.now.before cs i) c.loop-index.index c.loop-index.invariant.proved (λ d. (c.in_default.ensures d).proved);
      hold = below_next (λ (i : ℕ). (d : ConditionTree) → ConditionHolds (get_or cs i d)) c.loop-index.index c.loop-index.invariant.hold (λ d. (c.in_default.ensures d).holds);
    }

pub returns-clause-proved : goal.returns-clause-proved
returns-clause-proved g c =
    let cs = map condition_tree c.args.part.now.conditions.now in
    all_from_each (map text_of c.args.part.now.sections.now) c.args.part.now.before cs (λ i small. c.loop-index.invariant.proved i (omega (arith, small, length-map c.args.part.now.conditions.now condition_tree)))

pub returns-clause-holds : goal.returns-clause-holds
returns-clause-holds g c =
    let cs = map condition_tree c.args.part.now.conditions.now in
    all_hold cs (λ i small. c.loop-index.invariant.hold i (omega (arith, small, length-map c.args.part.now.conditions.now condition_tree)))
