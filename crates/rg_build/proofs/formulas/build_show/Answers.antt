use Rattle.std.proofs.Common.{false, ◌∷◌, [], map, ap, ◌∙◌}
use Rattle.rg_syntax.specs.Grammar.{show}
use Rattle.rg_syntax.specs.Written.{show_text, declared_word}
use Rattle.rg_build.specs.Frames.{declaring}
use Rattle.rg_syntax.specs.Texts.{shown_claim}
use Rattle.rg_build.specs.Inner.Building.{steps, whole_show_of}
use Rattle.rg_build.proofs.Builds.{builds_show}
use Rattle.rg_build.proofs.Views.{some_view}
use Rattle.rg_build.proofs.formulas.build_show.Goals as goal

pub returns : goal.returns
returns c = λ src s e.
    let none_yet = ap (λ ws. steps (declaring (map (declared_word src) ws) false ∷ []) (show s [])) c.new.ensures.items in
    some_view (show_text src) c.take_show.result (shown_claim s) (c.take_show.ensures src ∙ ap whole_show_of (c.in_ok-frames.ensures src ∙ ap (steps _) e ∙ none_yet ∙ builds_show s))
