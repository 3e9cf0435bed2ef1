use Rattle.std.proofs.Common.{ap, ◌∙◌}
use Rattle.rg_syntax.specs.Written.{program_text}
use Rattle.rg_syntax.specs.Texts.{program_of}
use Rattle.rg_build.specs.Inner.Drafts.{no_token, program_steps, whole_program}
use Rattle.rg_build.proofs.Views.{some_view}
use Rattle.rg_build.proofs.BuildsPrograms.{builds_program}
use Rattle.rg_build.proofs.programs.build_program.Goals as goal

pub returns : goal.returns
returns c = λ src p e.
    some_view (program_text src) c.whole_program.result (program_of p) (c.whole_program.ensures src ∙ ap whole_program (c.in_ok-draft.ensures src ∙ ap (program_steps no_token) e ∙ builds_program p))
