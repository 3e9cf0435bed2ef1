use Rattle.std.proofs.Common.{sym, subst, All, List}
use Rattle.std.proofs.lemmas.List.Elements.{All-push}
use Rattle.rgc_outlines.specs.declared.answers.Answered.{Answered}
use Rattle.rgc_outlines.specs.Changed.{IsAnswered}
use Rattle.rgc_outlines.proofs.answers.add_answer.Goals as goal

pub returns : goal.returns
returns c =
    subst (λ (answers : List Answered). All IsAnswered answers) (sym c.in_ok-push.ensures.items) (All-push IsAnswered c.args.answers.now.items c.args.answered c.requires.before c.requires.one)
