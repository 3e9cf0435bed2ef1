use Rattle.std.proofs.Common.{◌∙◌, ◌++◌, sym, ap, map, length, arith, List, ℕ, Vec, Global}
use Rattle.std.proofs.lemmas.List.{length-map, append-nil}
use Rattle.rgc_outlines.proofs.Changes.{changes_more, changes_over, below_least, name_at}
use Rattle.rgc_outlines.proofs.naming.push_changes.Goals as goal

pub loop-word-preserved : goal.loop-word-preserved
loop-word-preserved c =
    let names = map (λ (w : Vec ℕ Global). w.items) c.args.names.now in
    let count = length-map c.args.names.now (λ (w : Vec ℕ Global). w.items) in
    changes_more names c.args.before.now.values c.args.after.now.values c.loop-word.word c.loop-word.text.items _ _ _ _ (omega (arith, count)) (omega arith) (omega arith) c.in_ok-push_if_changed.ensures (name_at c.args.names.now c.loop-word.word c.index-names-word.result _ (omega arith) c.index-names-word.is c.deref.ensures.value) c.get.ensures.exact c.get-in-loop-word.ensures.exact
    ∙ c.loop-word.invariant

pub returns : goal.returns
returns c =
    let names = map (λ (w : Vec ℕ Global). w.items) c.args.names.now in
    let count = length-map c.args.names.now (λ (w : Vec ℕ Global). w.items) in
    let over = changes_over names c.args.before.now.values c.args.after.now.values c.loop-word.word (λ a b d. omega (arith, below_least c.loop-word.word (length c.args.names.now) (length c.args.before.now.values) (length c.args.after.now.values) c.min.result c.min-count.result (omega arith) (omega arith) (omega (arith, a, count)) b d)) in
    sym (append-nil c.loop-word.text.items) ∙ ap (λ (r : List ℕ). c.loop-word.text.items ++ r) (sym over) ∙ c.loop-word.invariant
