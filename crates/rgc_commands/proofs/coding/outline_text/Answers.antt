use Rattle.std.proofs.lemmas.Result.{err_from_is_err_and, IfOk-weaker, IfErr-weaker}
use Rattle.rgc_commands.specs.Of.{OfOutline}
use Rattle.rgc_commands.specs.Answers.{AsInOutline, HasCode, IsLeftOfOutline}
use Rattle.std.specs.Prelude.{string_bytes}
use Rattle.rgc_commands.specs.Code.{is_in_c, shown}
use Rattle.rgc_commands.specs.Inner.Stops.{IsOutlineStop, NoFault}
use Rattle.rgc_commands.specs.Priority.{priority_for}
use Rattle.rgc_commands.specs.Stops.{LacksCodeOfOutline}
use Rattle.rgc_commands.specs.declared.outlines.TheConstants.{MOST_STEPS}
use Rattle.rgc_commands.proofs.Outlining.{no_outline}
use Rattle.rgc_commands.proofs.Stopping.{proof_stop, proof_stop_more}
use Rattle.rgc_commands.proofs.coding.outline_text.Goals as goal

pub returns-in_err-outlined-clause-stopped : goal.returns-in_err-outlined-clause-stopped
returns-in_err-outlined-clause-stopped g c =
    let p = err_from_is_err_and c.from_residual.result c.from_residual.ensures.1 in
    rw (p.1, p.2) (no_outline c.args.files.now (LacksCodeOfOutline c.args.settings.now (is_in_c (shown c.args.form))) _ c.in_err-outlined.ensures.none)

pub returns-in_err-proved-clause-stopped : goal.returns-in_err-proved-clause-stopped
returns-in_err-proved-clause-stopped g c =
    let p = err_from_is_err_and c.from_residual-in_err-proved.result c.from_residual-in_err-proved.ensures.1 in
    rw (p.1, p.2)
    (proof_stop c.args.files.now _ (LacksCodeOfOutline c.args.settings.now (is_in_c (shown c.args.form))) _ c.in_ok-outlined.ensures.files
    (proof_stop_more _ _ NoFault _ _ (λ lines none. absurd none) c.in_err-proved.ensures.stopped))

pub returns-clause-text : goal.returns-clause-text
returns-clause-text g c =
    IfOk-weaker c.proved_text.result _ (λ text. OfOutline c.args.files.now (λ o. HasCode (IsLeftOfOutline c.args.settings.now.erase c.args.settings.now.keeps_aux o) AsInOutline (priority_for c.args.settings.now.priority o) (shown c.args.form) (string_bytes text)))
    (λ text has. rw c.in_ok-outlined.ensures.files has) c.proved_text.ensures.text

pub returns-clause-stopped : goal.returns-clause-stopped
returns-clause-stopped g c =
    let in_c = is_in_c (shown c.args.form) in
    let outline = c.in_ok-outlined.outlined.now.files in
    IfErr-weaker c.proved_text.result _ (IsOutlineStop c.args.files.now (LacksCodeOfOutline c.args.settings.now in_c))
    (λ stop h. proof_stop c.args.files.now outline (LacksCodeOfOutline c.args.settings.now in_c) stop c.in_ok-outlined.ensures.files h) (c.proved_text.ensures.stopped MOST_STEPS)
