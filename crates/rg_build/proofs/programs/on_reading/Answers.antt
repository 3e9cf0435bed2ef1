use Rattle.std.proofs.Common.{◌∙◌, ap, Some, None, option_map, map, reverse}
use Rattle.std.proofs.lemmas.Result.{IfOk-weaker}
use Rattle.rg_syntax.specs.Written.{claim, term}
use Rattle.rg_build.specs.Frames.{a_claim, a_term, piece, open_of}
use Rattle.rg_build.specs.Inner.Drafts.{between_parts, read_for, rest_of, drafted}
use Rattle.rg_build.proofs.DraftLemmas.{taken, claim_placeless, term_placeless}
use Rattle.rg_build.proofs.programs.on_reading.Goals as goal

pub returns-in-None : goal.returns-in-None
returns-in-None c = λ src.
    taken (rest_of (drafted src c.args.draft.now)) (read_for src c.args.purpose) _ _ _ _ None (c.in_ok-take_token.ensures src) (c.in_ok-take_item.ensures src (rest_of (drafted src c.args.draft.now)) (read_for src c.args.purpose)) (ap (option_map (piece src)) c.in-None.is)

pub returns-in-Some-Formula : goal.returns-in-Some-Formula
returns-in-Some-Formula c =
    IfOk-weaker c.with_claim.result _ _ (λ done e src.
    e src
    ∙ claim_placeless (record (drafted src c.args.draft.now) { within = map (open_of src) (reverse c.take_item.new.frames.items) }) between_parts (read_for src c.args.purpose) (claim src c.in-Some-Formula.formula)
    ∙ taken (rest_of (drafted src c.args.draft.now)) (read_for src c.args.purpose) _ _ _ _ (Some (a_claim (claim src c.in-Some-Formula.formula))) (c.in_ok-take_token.ensures src) (c.in_ok-take_item.ensures src (rest_of (drafted src c.args.draft.now)) (read_for src c.args.purpose)) (ap (option_map (piece src)) c.in-Some-Formula.is ∙ ap (λ x. Some (piece src x)) c.in-Some-Formula.field-0-is)) c.with_claim.ensures

pub returns-in-Some-Expression : goal.returns-in-Some-Expression
returns-in-Some-Expression c =
    IfOk-weaker c.with_term.result _ _ (λ done e src.
    e src
    ∙ term_placeless (record (drafted src c.args.draft.now) { within = map (open_of src) (reverse c.take_item.new.frames.items) }) between_parts (read_for src c.args.purpose) (term src c.in-Some-Expression.value)
    ∙ taken (rest_of (drafted src c.args.draft.now)) (read_for src c.args.purpose) _ _ _ _ (Some (a_term (term src c.in-Some-Expression.value))) (c.in_ok-take_token.ensures src) (c.in_ok-take_item.ensures src (rest_of (drafted src c.args.draft.now)) (read_for src c.args.purpose)) (ap (option_map (piece src)) c.in-Some-Expression.is ∙ ap (λ x. Some (piece src x)) c.in-Some-Expression.field-0-is)) c.with_term.ensures
