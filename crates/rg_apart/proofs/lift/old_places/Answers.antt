use Rattle.std.proofs.Common.{◌≡◌, ◌∙◌, ◌<◌, ◌≤◌, ◌+◌, ◌++◌, [], ◌∷◌, ℕ, List, take, length, true, false, cond, get_or, sym, ap, arith, append-nil}
use Rattle.std.proofs.lemmas.List.{take_all}
use Rattle.std.proofs.lemmas.List.FromFn.{length-range_with_len}
use Rattle.rg_erase.specs.Erased.{staying}
use Rattle.rg_erase.proofs.Loops.{staying_nil}
use Rattle.rg_c_plan.specs.Accesses.{places}
use Rattle.rg_apart.proofs.Kept.{kept_more}
use Rattle.rg_apart.proofs.lift.old_places.Goals as goal
use Rattle.rg_apart.proofs.lift.old_places.Goals.{then-not-is_erased+in_ok-push, else-not-is_erased}

pub loop-word-init : goal.loop-word-init
loop-word-init c = c.new-old.ensures.items ∙ sym (staying_nil c.args.erased.now)

pub loop-word-preserved : goal.loop-word-preserved
loop-word-preserved c =
    let i = c.loop-word.word in
    let es = c.args.erased.now in
    let ks = places c.args.layout.now in
    let less : i < length c.args.layout.now = omega (arith, c.loop-word-test.true, c.len-word-end.ensures.count) in
    let inv : c.loop-word.old.items ≡ staying es (take i ks) = c.loop-word.invariant in
    let more = kept_more es (length c.args.layout.now) i less in
    elim c.if-not-is_erased.branch [
      | then-not-is_erased+in_ok-push w ↦
          let stays : get_or es i false ≡ false = sym c.is_erased.ensures ∙ w.if-not-is_erased.true in
          let pushed : w.push.new.self.items ≡ c.loop-word.old.items ++ i ∷ [] = w.in_ok-push.ensures.items in
          ap (λ v. v.items) w.old-is ∙ pushed ∙ ap (λ (xs : List ℕ). xs ++ i ∷ []) inv ∙ sym (more ∙ ap (λ b. staying es (take i ks) ++ cond b [] (i ∷ [])) stays)
      | else-not-is_erased w ↦
          let gone : get_or es i false ≡ true = sym c.is_erased.ensures ∙ w.if-not-is_erased.false in
          ap (λ v. v.items) w.old-is ∙ inv ∙ sym (more ∙ ap (λ b. staying es (take i ks) ++ cond b [] (i ∷ [])) gone ∙ append-nil (staying es (take i ks)))
    ]

pub returns : goal.returns
returns c =
    let ks = places c.args.layout.now in
    let inv : c.loop-word.old.items ≡ staying c.args.erased.now (take c.loop-word.word ks) = c.loop-word.invariant in
    let past : length ks ≤ c.loop-word.word = omega (arith, c.loop-word-test.false, c.len-word-end.ensures.count, length-range_with_len 0 (length c.args.layout.now)) in
    inv ∙ ap (λ (l : List ℕ). staying c.args.erased.now l) (take_all c.loop-word.word ks past)
