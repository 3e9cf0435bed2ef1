use Rattle.std.proofs.Common.{◌∷◌, [], map, ap, ◌∙◌}
use Rattle.std.proofs.lemmas.Result.{IfOk-weaker}
use Rattle.rg_syntax.specs.Grammar.{moves}
use Rattle.rg_syntax.specs.Written.{move_text}
use Rattle.rg_build.specs.Frames.{moving}
use Rattle.rg_syntax.specs.Texts.{moves_of}
use Rattle.rg_build.specs.Inner.Building.{steps, whole_moves_of}
use Rattle.rg_build.proofs.Builds.{builds_moves}
use Rattle.rg_build.proofs.Views.{some_view}
use Rattle.rg_build.proofs.formulas.build_moves.Goals as goal

pub returns : goal.returns
returns c = λ src s e.
    let none_yet = ap (λ ms. steps (moving (map (move_text src) ms) ∷ []) (moves s [])) c.new.ensures.items in
    IfOk-weaker c.take_moves.result _ _ (λ built v. some_view (λ r. map (move_text src) r.items) built (moves_of s) (v ∙ ap whole_moves_of (c.in_ok-frames.ensures src ∙ ap (steps _) e ∙ none_yet) ∙ builds_moves s)) (c.take_moves.ensures src)
