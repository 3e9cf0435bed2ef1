use Rattle.std.proofs.Common.{◌≡◌, ◌≢◌, ◌+◌, ◌<◌, ◌≤◌, sym, ◌∙◌, ap, refl, subst, true, false, [], ◌∷◌, ◌++◌, length, drop, slice_index_or, All, Contains, arith}
use Rattle.std.proofs.lemmas.Bool.Decides.{Decides-eqb}
use Rattle.std.proofs.lemmas.List.{append_assoc, length-map}
use Rattle.std.proofs.lemmas.List.Elements.{contains_decides, Decides-contains}
use Rattle.std.proofs.lemmas.Result.{IfOk-weaker}
use Rattle.rg_words.specs.Layout.{fixed_of}
use Rattle.rg_outline_meaning.specs.Expressions.{AreOthers}
use Rattle.rg_outline_meaning.specs.View.{words}
use Rattle.rg_outline_meaning.proofs.Families.{not_among, passed_fixed, passed_named, next_other, others_all}
use Rattle.rg_outline_meaning.proofs.names.Reader.all_same_but.Goals as goal
use Rattle.rg_outline_meaning.proofs.names.Reader.all_same_but.Goals.{then-not-is_fixed+then-not-contains+in_ok-push, else-not-is_fixed, else-not-is_fixed-via-then-not-is_fixed+else-not-contains, else-not-is_fixed-via-else-not-is_fixed}

pub loop-word-preserved : goal.loop-word-preserved
loop-word-preserved c =
    let but = c.args.but.now in
    let fixed = fixed_of (words c.args.self.now) in
    let k = c.loop-word.word-counter in
    let old = c.loop-word.others.items in
    let low : k < length fixed = omega (arith, length-map (words c.args.self.now) (λ w. w.fixed)) in
    elim c.if-not-is_fixed.branch [
      | then-not-is_fixed+then-not-contains+in_ok-push w ↦ (λ ks h.
          let free : false ≡ slice_index_or fixed k false = w.if-not-is_fixed.ensures in
          let unnamed : All (λ j. j ≢ k) but = not_among but k (λ there. cc ((Decides-contains but k false (contains_decides _ Decides-eqb but k false w.if-not-contains.ensures.cases)).1 there)) in
          let pushed : c.if-not-is_fixed.others.items ≡ old ++ k ∷ [] = ap (λ v. v.items) w.others-is ∙ w.in_ok-push.ensures.items in
          rw (pushed, append_assoc old (k ∷ []) ks) (c.loop-word.invariant (k ∷ ks) (next_other but fixed k low ks (sym free) unnamed h)))
      | else-not-is_fixed w ↦ (λ ks h.
          rw w.others-is (elim w.else-not-is_fixed.branch [
            | else-not-is_fixed-via-then-not-is_fixed+else-not-contains v ↦
                (let named : Contains but k = (Decides-contains but k true (contains_decides _ Decides-eqb but k true v.if-not-contains.ensures.cases)).0 refl in
                c.loop-word.invariant ks (passed_named but fixed k low ks named h))
            | else-not-is_fixed-via-else-not-is_fixed v ↦
                (let stays : true ≡ slice_index_or fixed k false = v.if-not-is_fixed.ensures in
                c.loop-word.invariant ks (passed_fixed but fixed k low ks (sym stays) h))
          ]))
    ]

pub returns : goal.returns
returns c =
    let fixed = fixed_of (words c.args.self.now) in
    let far : length fixed ≤ c.loop-word.word-counter = omega (arith, length-map (words c.args.self.now) (λ w. w.fixed)) in
    let all = others_all c.args.but.now fixed c.loop-word.word-counter c.loop-word.others.items far c.loop-word.invariant in
    IfOk-weaker c.same_words.result _ _ (λ p is. (c.loop-word.others.items, all, rw c.deref.ensures.value at is)) c.same_words.ensures
