use Rattle.std.proofs.Common.{map, slice_get, ap, sym, ◌∙◌}
use Rattle.std.proofs.lemmas.Result.{IfOk-weaker}
use Rattle.rg_words.specs.declared.limits.TheConstants.{MOST_STATEMENTS}
use Rattle.rg_syntax.specs.Grammar.{lexeme_of}
use Rattle.rg_build.specs.Inner.DraftLines.{begun_lines}
use Rattle.rg_build.proofs.Beginnings.{begun_is}
use Rattle.rg_build.proofs.begun.begun_too_many.Goals as goal

pub returns : goal.returns
returns c = λ src lines begun.
    let same = ap begun_lines (c.in_ok-draft.ensures src) ∙ begun_is begun.spelling (map (lexeme_of src) c.args.tokens.now) begun.rest begun.goes_on ∙ sym begun.are in
    IfOk-weaker c.statement_too_many-line.result _ _ (λ line e. e ∙ ap (λ ls. slice_get ls MOST_STATEMENTS) same) (c.statement_too_many-line.ensures src)
