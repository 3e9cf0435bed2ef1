use Rattle.std.proofs.Common.{◌≡◌, ◌∙◌, ◌++◌, ℕ, suc, ◌+◌, ◌-◌, ◌<◌, List, length, map, take, drop, ap, sym, subst, arith, rules}
use Rattle.std.specs.String.{string_bytes}
use Rattle.std.proofs.lemmas.List.{take_rest}
use Rattle.rg_c.specs.declared.tree.Given.{Given}
use Rattle.rg_c.specs.Together.{all_given}
use Rattle.rg_c.specs.View.{given, on}
use Rattle.rg_c.proofs.TogetherParts.{skipped, dropped_next}
use Rattle.rg_c.proofs.together.push_to_words.Goals as goal
use Rattle.rg_c.proofs.together.push_to_words.Goals.{then-written-gt0, else-written-gt0+in_ok-written}

pub loop-at-preserved : goal.loop-at-preserved
loop-at-preserved c =
    let words = c.args.s.now.layout.now in
    let kinds = c.args.s.now.kinds.now in
    let gives : ℕ → List Given → List ℕ = λ n d. on c.args.s.now (all_given words kinds n (map given d)) in
    let at = c.loop-at.at in
    let gs = c.args.gs.now in
    let less : at < length gs = omega (arith, c.loop-at-test.true) in
    let written = c.if-written-gt0.written in
    elim c.if-written-gt0.branch [
      | then-written-gt0 w ↦
          let size : c.loop-at.written ≡ suc written = omega (arith, w.written-is, w.if-written-gt0.true) in
          let text : string_bytes c.if-written-gt0.text ≡ string_bytes c.loop-at.text = search rules in
          ap (λ t. t ++ gives written (drop (at + 1) gs)) text
          ∙ ap (λ s. string_bytes c.loop-at.text ++ on c.args.s.now s) (sym (skipped words kinds gs at c.loop-at.written written (at + 1) less size (omega arith)))
          ∙ c.loop-at.invariant
      | else-written-gt0+in_ok-written w ↦
          let none : c.loop-at.written ≡ 0 = omega (arith, w.if-written-gt0.false) in
          let rest : take (length gs - at) (drop at gs) ≡ drop at gs = take_rest gs at in
          let text : string_bytes c.if-written-gt0.text ≡ string_bytes w.push_next.new.text = search rules in
          let size : written ≡ w.in_ok-written.written = search rules in
          let P : List Given → Type 0 = λ d. string_bytes w.push_next.new.text ++ gives w.in_ok-written.written (drop 1 d) ≡ string_bytes c.loop-at.text ++ gives 0 d in
          let done : P (take (length gs - at) (drop at gs)) = w.in_ok-written.ensures in
          let next : string_bytes c.if-written-gt0.text ++ gives written (drop 1 (drop at gs)) ≡ string_bytes c.loop-at.text ++ gives 0 (drop at gs) =
          ap (λ t. t ++ gives written (drop 1 (drop at gs))) text
          ∙ ap (λ n. string_bytes w.push_next.new.text ++ gives n (drop 1 (drop at gs))) size
          ∙ subst P rest done in
          ap (λ d. string_bytes c.if-written-gt0.text ++ gives written d) (sym (dropped_next gs at (at + 1) (omega arith)))
          ∙ next
          ∙ ap (λ n. string_bytes c.loop-at.text ++ gives n (drop at gs)) (sym none)
          ∙ c.loop-at.invariant
    ]
