use Rattle.std.proofs.Common.{◌≡◌, ℕ, List, true, ap, sym, subst}
use Rattle.std.specs.Prelude.{string_bytes}
use Rattle.std.proofs.lemmas.Result.{err_from_is_err_and}
use Rattle.rgc_commands.specs.Answers.{AsInOutline, HasCode, IsLeftOfOutline}
use Rattle.rgc_commands.specs.Code.{accesses}
use Rattle.rgc_commands.specs.Priority.{priority_for}
use Rattle.rgc_commands.specs.Stops.{LacksMore}
use Rattle.rgc_commands.proofs.Stopping.{proof_stop_more}
use Rattle.rgc_commands.proofs.outlines.more_of.Goals as goal

pub returns-in_err-text-clause-stopped : goal.returns-in_err-text-clause-stopped
returns-in_err-text-clause-stopped g c = λ steps.
    let p = err_from_is_err_and c.from_residual.result c.from_residual.ensures.1 in
    rw (p.1, p.2) (proof_stop_more c.args.outlined.now.files steps _ (LacksMore c.args.settings.now c.args.outlined.now.files) _ (λ lines why. (c.if-not-settings.false, why)) (c.in_err-text.ensures.stopped steps))

pub returns-clause-more : goal.returns-clause-more
returns-clause-more g c =
    let same : c.into_bytes.result.items ≡ string_bytes c.in_ok-text.text = ap (λ v. v.items) c.into_bytes.ensures.value in
    λ wanted. subst (λ (bytes : List ℕ). HasCode (IsLeftOfOutline c.args.settings.now.erase c.args.settings.now.keeps_aux c.args.outlined.now.files) AsInOutline (priority_for c.args.settings.now.priority c.args.outlined.now.files) accesses bytes) (sym same) c.in_ok-text.ensures.text
