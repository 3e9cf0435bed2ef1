use Rattle.std.proofs.lemmas.Result.{err_from_is_err_and}
use Rattle.rgc_commands.proofs.Outlining.{walk_refusal}
use Rattle.rgc_commands.proofs.outlines.unverified.Goals as goal

pub returns-in_err-walked : goal.returns-in_err-walked
returns-in_err-walked g c = λ steps.
    let p = err_from_is_err_and c.from_residual-in_err-walked.result c.from_residual-in_err-walked.ensures.1 in
    rw (p.1, p.2) (walk_refusal c.args.outlined.now.files steps _ c.in_err-walked.ensures.refused)
