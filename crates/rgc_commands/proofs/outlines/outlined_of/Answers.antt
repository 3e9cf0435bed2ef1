use Rattle.std.proofs.Common.{None}
use Rattle.std.proofs.lemmas.Result.{err_from_is_err_and, IfErr-weaker}
use Rattle.rgc_commands.specs.Inner.Stops.{IsNoOutline}
use Rattle.rgc_commands.proofs.Outlining.{unread_outline, unexpanded_outline}
use Rattle.rgc_commands.proofs.outlines.outlined_of.Goals as goal

pub returns-in_err-expanded-clause-none : goal.returns-in_err-expanded-clause-none
returns-in_err-expanded-clause-none c =
    let p = err_from_is_err_and c.from_residual.result c.from_residual.ensures.1 in
    rw (p.1, p.2) (unread_outline c.args.files.now _ (c.in_err-expanded.ensures.unread None))

pub returns-clause-none : goal.returns-clause-none
returns-clause-none c =
    IfErr-weaker c.outlined_in.result _ (IsNoOutline c.args.files.now) (λ stop h. unexpanded_outline c.args.files.now _ stop c.in_ok-expanded.ensures.expanded h) c.outlined_in.ensures.none
