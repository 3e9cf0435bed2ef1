use Rattle.std.proofs.Common.{◌∷◌, [], map, ap, ◌∙◌}
use Rattle.rg_syntax.specs.Grammar.{settings}
use Rattle.rg_syntax.specs.Written.{setting}
use Rattle.rg_build.specs.Frames.{for_start, setting_words}
use Rattle.rg_syntax.specs.Texts.{settings_of}
use Rattle.rg_build.specs.Inner.Building.{steps, whole_start_of}
use Rattle.rg_build.proofs.Builds.{builds_start}
use Rattle.rg_build.proofs.Views.{some_view}
use Rattle.rg_build.proofs.formulas.build_start.Goals as goal

pub returns : goal.returns
returns c = λ src s e.
    let none_yet = ap (λ ss. steps (setting_words for_start (map (setting src) ss) ∷ []) (settings s [])) c.new.ensures.items in
    some_view (λ r. map (setting src) r.items) c.take_start.result (settings_of s) (c.take_start.ensures src ∙ ap whole_start_of (c.in_ok-frames.ensures src ∙ ap (steps _) e ∙ none_yet ∙ builds_start s))
