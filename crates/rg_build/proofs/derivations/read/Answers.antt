use Rattle.std.proofs.Common.{rules, ap, sym, ◌∙◌, map}
use Rattle.std.proofs.lemmas.List.{take_all}
use Rattle.rg_text.specs.declared.kind.Kind.TheVariants.{Name}
use Rattle.rg_syntax.specs.Grammar.{lexeme_of}
use Rattle.rg_build.specs.Inner.BuildingLines.{nothing_read, line_steps}
use Rattle.rg_build.proofs.BuildsLines.{lines_more}
use Rattle.rg_build.proofs.derivations.read.Goals as goal
use Rattle.rg_build.proofs.derivations.read.Goals.{then-not-branch+in_ok-draft, else-not-branch}

pub loop-token-preserved : goal.loop-token-preserved
loop-token-preserved c = λ src.
    lines_more src nothing_read c.args.tokens.now c.loop-token.token-index (record { kind = Name; start = 0; end = 0; line = 0 }) _ _ c.loop-token-test.true (c.loop-token.invariant src) (elim c.if-not-branch.branch [ then-not-branch+in_ok-draft w ↦ search rules | else-not-branch w ↦ search rules ])

pub returns : goal.returns
returns c = λ src.
    sym (c.loop-token.invariant src) ∙ ap (λ ts. line_steps nothing_read (map (lexeme_of src) ts)) (take_all c.loop-token.token-index c.args.tokens.now c.loop-token-test.false)
