use Rattle.std.proofs.Common.{ap, sym, ◌∙◌, ◌∷◌, [], map}
use Rattle.std.proofs.lemmas.List.{take_all}
use Rattle.rg_text.specs.declared.kind.Kind.TheVariants.{Name}
use Rattle.rg_syntax.specs.Grammar.{lexeme_of}
use Rattle.rg_build.specs.Frames.{open_of}
use Rattle.rg_build.specs.Inner.Building.{steps}
use Rattle.rg_build.proofs.BuildLemmas.{steps_more}
use Rattle.rg_build.proofs.formulas.read.Goals as goal

pub loop-token-preserved : goal.loop-token-preserved
loop-token-preserved c = λ src.
    steps_more src _ c.args.tokens.now c.loop-token.token-index (record { kind = Name; start = 0; end = 0; line = 0 }) _ _ c.loop-token-test.true (c.loop-token.invariant src) (c.in_ok-take_token.ensures src)

pub returns : goal.returns
returns c = λ src.
    sym (c.loop-token.invariant src) ∙ ap (λ ts. steps (open_of src c.args.first ∷ []) (map (lexeme_of src) ts)) (take_all c.loop-token.token-index c.args.tokens.now c.loop-token-test.false)
