use Rattle.std.proofs.Common.{ap, sym, ◌∙◌, map}
use Rattle.std.proofs.lemmas.List.{take_all}
use Rattle.rg_text.specs.declared.kind.Kind.TheVariants.{Name}
use Rattle.rg_syntax.specs.Grammar.{lexeme_of}
use Rattle.rg_build.specs.Inner.Drafts.{no_token, program_steps}
use Rattle.rg_build.proofs.BuildsPrograms.{program_more}
use Rattle.rg_build.proofs.programs.draft_of.Goals as goal

pub loop-token-preserved : goal.loop-token-preserved
loop-token-preserved c = λ src.
    program_more src no_token c.args.tokens.now c.loop-token.token-index (record { kind = Name; start = 0; end = 0; line = 0 }) _ _ c.loop-token-test.true (c.loop-token.invariant src) (c.in_ok-take.ensures src)

pub returns : goal.returns
returns c = λ src.
    sym (c.loop-token.invariant src) ∙ ap (λ ts. program_steps no_token (map (lexeme_of src) ts)) (take_all c.loop-token.token-index c.args.tokens.now c.loop-token-test.false)
