use Rattle.std.proofs.Common.{◌≡◌, ℕ, suc, ◌+◌, length, map, subst, refl, sym, ◌∙◌, Some, None, rules, arith}
use Rattle.std.proofs.lemmas.List.{length-map}
use Rattle.std.proofs.Math.ListN.{drop_of_length-le}
use Rattle.rg_tree.specs.ProgramView.{part}
use Rattle.rg_tree.specs.ProgramTrees.{program}
use Rattle.rg_tree.specs.Traces.{IsTraceOf}
use Rattle.rg_runs.specs.View.{steps}
use Rattle.rg_runs.proofs.Typed.{body_typed}
use Rattle.rg_runs.proofs.Verdicts.{decided, verdict_stops}
use Rattle.rg_runs.proofs.follow.follows.Goals as goal

pub follow-requires-clause-body : goal.follow-requires-clause-body
follow-requires-clause-body c =
    body_typed c.args.program.now.layout c.args.program.now.parts.items c.loop-part.part-index c.part-item.result c.args.program.now.typed.parts (search rules) (search rules)

pub returns-in-None : goal.returns-in-None
returns-in-None c =
    let next : suc c.loop-part.number ≡ c.loop-part.number + 1 = omega arith in
    let count : c.len.result ≡ length (map part c.args.program.now.parts.items) = omega (arith, c.len.ensures, length-map c.args.program.now.parts.items part) in
    let trace = subst (λ (n : ℕ). IsTraceOf c.args.program.now.layout n c.args.trace.now.first.values (steps c.args.trace.now.steps.items)) count (c.if-not-is_trace.ensures.0 refl) in
    decided c.following_decides.ensures (program c.args.program.now) c.args.trace.now.first.values (steps c.args.trace.now.steps.items) None trace
    (sym c.loop-part.invariant.same ∙ verdict_stops (suc c.loop-part.number) c.loop-part.ended c.args.program.now.parts.items c.loop-part.part-index c.part-item.result c.args.trace.now.first.values (steps c.args.trace.now.steps.items) (search rules) (search rules) (rw next (sym c.in_ok-follow.ensures ∙ c.in-None.is)))

pub returns : goal.returns
returns c =
    let count : c.len.result ≡ length (map part c.args.program.now.parts.items) = omega (arith, c.len.ensures, length-map c.args.program.now.parts.items part) in
    let trace = subst (λ (n : ℕ). IsTraceOf c.args.program.now.layout n c.args.trace.now.first.values (steps c.args.trace.now.steps.items)) count (c.if-not-is_trace.ensures.0 refl) in
    decided c.following_decides.ensures (program c.args.program.now) c.args.trace.now.first.values (steps c.args.trace.now.steps.items) (Some c.loop-part.ended) trace (sym c.loop-part.invariant.same ∙ rw (drop_of_length-le c.args.program.now.parts.items {i = c.loop-part.part-index} (search rules)) refl)
