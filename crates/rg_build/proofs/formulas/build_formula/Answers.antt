use Rattle.std.proofs.Common.{◌∷◌, [], ap, ◌∙◌}
use Rattle.rg_syntax.specs.Written.{claim}
use Rattle.rg_build.specs.Frames.{whole}
use Rattle.rg_syntax.specs.Texts.{claim_of}
use Rattle.rg_build.specs.Inner.Building.{steps, whole_of}
use Rattle.rg_build.proofs.Builds.{builds_formula}
use Rattle.rg_build.proofs.Views.{some_view}
use Rattle.rg_build.proofs.formulas.build_formula.Goals as goal

pub returns : goal.returns
returns c = λ src f e.
    some_view (claim src) c.take_whole.result (claim_of f) (c.take_whole.ensures src ∙ ap whole_of (c.in_ok-frames.ensures src ∙ ap (steps (whole ∷ [])) e ∙ builds_formula f))
