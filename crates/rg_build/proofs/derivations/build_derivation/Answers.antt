use Rattle.std.proofs.Common.{ap, ◌∙◌}
use Rattle.std.proofs.lemmas.Result.{IfOk-weaker}
use Rattle.rg_build.specs.Inner.BuildingLines.{nothing_read, line_steps}
use Rattle.rg_build.proofs.BuildsLines.{lines_in, builds_derivation}
use Rattle.rg_build.proofs.derivations.build_derivation.Goals as goal

pub returns : goal.returns
returns c = λ src d e.
    IfOk-weaker c.finish.result _ _ (λ lines v. v src ∙ ap lines_in (c.in_ok-draft.ensures src) ∙ ap (λ ls. lines_in (line_steps nothing_read ls)) e ∙ builds_derivation d) c.finish.ensures
