use Rattle.std.proofs.Common.{◌≡◌, ◌+◌, ◌-◌, ◌<◌, ◌^◌, ℕ, length, sym, ap, subst, ◌∙◌, arith}
use Rattle.std.specs.Prelude.{sum}
use Rattle.std.specs.List.{range_with_len}
use Rattle.std.proofs.lemmas.Bool.{lt-ltb, ltb-true}
use Rattle.std.proofs.lemmas.List.FromFn.{length-range_with_len}
use Rattle.rayon.specs.Numbers.{nat_range}
use Rattle.rayon.proofs.ToStd.{nat_range-All}
use Rattle.rg_pool.proofs.EmptySteps.{marks_within, counted}
use Rattle.rg_pool.proofs.pieces.has_empty.Goals as goal

pub sum-empty-requires-clause-ready : goal.sum-empty-requires-clause-ready
sum-empty-requires-clause-ready g c κs within =
    let ends = c.into_par_iter.ensures in
    let n = length c.args.clauses.now.clauses + length c.args.lines.now.lines in
    let inside = nat_range-All (λ i. i < n) 0 n (λ i low high. high) in
    rw (c.map.ensures.base, c.map.ensures.f, ends.0, ends.1, c.count_all-count.ensures.count) (λ k d lt. (inside k d lt, λ y p. tt))

pub sum-empty-requires-clause-fits : goal.sum-empty-requires-clause-fits
sum-empty-requires-clause-fits g c κs within = λ marks h.
    let ends = c.into_par_iter.ensures in
    let chain = rw (c.map.ensures.base, c.map.ensures.f) at h in
    let places = chain.1 ∙ (λ i. nat_range (ends.0 i) (ends.1 i)) in
    let few = marks_within c.args.clauses.now.clauses c.args.lines.now chain.0 marks chain.2 in
    let total : sum marks < 2 ^ 64 = omega (arith, few, ap length places, length-range_with_len 0 (c.count_all-count.result - 0), c.count_all-count.type_inv) in
    total

pub returns-clause-answer : goal.returns-clause-answer
returns-clause-answer g c =
    let ends = c.into_par_iter.ensures in
    let done = c.sum-empty.ensures in
    let chain = rw (c.map.ensures.base, c.map.ensures.f) at done.1 in
    let n = length c.args.clauses.now.clauses + length c.args.lines.now.lines in
    let whole : c.count_all-count.result - 0 ≡ n = omega (arith, c.count_all-count.ensures.count) in
    let places = chain.1 ∙ (λ i. nat_range (ends.0 i) (ends.1 i)) ∙ ap (range_with_len 0) whole in
    let both = counted c.args.clauses.now.clauses c.args.lines.now chain.0 done.0 places chain.2 in
    let total : c.sum-empty.result ≡ sum done.0 = done.2 in (
      λ yes. both.0 (subst (λ (m : ℕ). 0 < m) total (ltb-true 0 c.sum-empty.result yes)),
      λ has. lt-ltb 0 c.sum-empty.result (subst (λ (m : ℕ). 0 < m) (sym total) (both.1 has)),
    )
