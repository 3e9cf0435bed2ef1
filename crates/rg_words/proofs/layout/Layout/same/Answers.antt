use Rattle.std.proofs.Common.{rules, ◌≡◌, ap, ◌∙◌, sym, take, ◌∷◌, ◌++◌, []}
use Rattle.rg_words.specs.Layout.{Word}
use Rattle.rg_words.proofs.Words.{stands_at}
use Rattle.rg_words.proofs.layout.Layout.same.Goals as goal

pub loop-word-preserved : goal.loop-word-preserved
loop-word-preserved c =
    let one : Word = record { name = c.word.result.0.now; width = c.word.result.1.width; fixed = c.word.result.1.fixed } in
    let two : Word = record { name = c.word-in-loop-word.result.0.now; width = c.word-in-loop-word.result.1.width; fixed = c.word-in-loop-word.result.1.fixed } in
    let here = stands_at c.args.self.now c.loop-word.word one c.word.ensures.layout c.word.ensures.exact in
    let there = stands_at c.args.other.now c.loop-word.word two c.word-in-loop-word.ensures.layout c.word-in-loop-word.ensures.exact in
    let name : one.name ≡ two.name = search rules in
    let width : one.width ≡ two.width = search rules in
    let fixed : one.fixed ≡ two.fixed = search rules in
    let same : one ≡ two = cc in
    here.more ∙ ap (λ words. words ++ one ∷ []) c.loop-word.invariant ∙ ap (λ w. take c.loop-word.word c.args.other.now ++ w ∷ []) same ∙ sym there.more
