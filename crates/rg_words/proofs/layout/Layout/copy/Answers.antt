use Rattle.std.proofs.Common.{◌≡◌, ap, ◌∙◌, sym, take, ◌∷◌, ◌++◌, []}
use Rattle.rg_words.proofs.Words.{StandsAt, stands_at}
use Rattle.rg_words.proofs.layout.Layout.copy.Goals as goal

here : (c : goal.After-copy-1) → StandsAt c.args.self.now c.loop-word.word record { name = c.word.result.0.now; width = c.word.result.1.width; fixed = c.word.result.1.fixed }
here c = stands_at _ _ _ c.word.ensures.layout c.word.ensures.exact

pub push-requires-clause-absent : goal.push-requires-clause-absent
push-requires-clause-absent c =
    let e : c.loop-word.copy ≡ take c.loop-word.word c.args.self.now = c.loop-word.invariant in rw e (here c).absent

pub push-requires-clause-width : goal.push-requires-clause-width
push-requires-clause-width c = (here c).width

pub push-requires-clause-room : goal.push-requires-clause-room
push-requires-clause-room c =
    let e : c.loop-word.copy ≡ take c.loop-word.word c.args.self.now = c.loop-word.invariant in rw e (here c).room

pub loop-word-preserved : goal.loop-word-preserved
loop-word-preserved c =
    let stands = stands_at c.args.self.now c.loop-word.word record { name = c.word.result.0.now; width = c.word.result.1.width; fixed = c.word.result.1.fixed } c.word.ensures.layout c.word.ensures.exact in
    c.in_ok-push.ensures.ok ∙ ap (λ words. words ++ record { name = c.word.result.0.now; width = c.word.result.1.width; fixed = c.word.result.1.fixed } ∷ []) c.loop-word.invariant ∙ sym stands.more
