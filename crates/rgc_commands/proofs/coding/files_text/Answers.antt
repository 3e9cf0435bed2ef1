use Rattle.std.proofs.lemmas.Result.{err_from_is_err_and, IfOk-weaker, IfErr-weaker}
use Rattle.rgc_commands.specs.Of.{OfThree}
use Rattle.rgc_commands.specs.Answers.{AsInFiles, HasCode, IsLeftOfFiles}
use Rattle.std.specs.Prelude.{string_bytes}
use Rattle.rgc_commands.specs.Code.{is_in_c, shown}
use Rattle.rgc_commands.specs.Inner.Stops.{IsFilesStop}
use Rattle.rgc_commands.specs.Priority.{said}
use Rattle.rgc_commands.proofs.Printing.{files_code, files_lack}
use Rattle.rgc_commands.proofs.Stopping.{code_stop}
use Rattle.rgc_commands.proofs.coding.files_text.Goals as goal

pub returns-in_err-code-clause-stopped : goal.returns-in_err-code-clause-stopped
returns-in_err-code-clause-stopped g c =
    let p = err_from_is_err_and c.from_residual.result c.from_residual.ensures.1 in
    rw (p.1, p.2) (c.in_err-code.ensures.stopped (is_in_c (shown c.args.form)))

pub returns-clause-text : goal.returns-clause-text
returns-clause-text g c =
    IfOk-weaker c.code_text.result _ (λ text. OfThree c.args.files.now (λ t d p. HasCode (IsLeftOfFiles c.args.settings.now.erase t d p) AsInFiles (said c.args.settings.now.priority) (shown c.args.form) (string_bytes text)))
    (λ text printed. files_code c.args.settings.now.erase (said c.args.settings.now.priority) c.args.files.now c.in_ok-code.code _ _ c.in_ok-code.ensures.left printed.0 printed.1 printed.2) c.code_text.ensures.printed

pub returns-clause-stopped : goal.returns-clause-stopped
returns-clause-stopped g c =
    let in_c = is_in_c (shown c.args.form) in
    IfErr-weaker c.code_text.result _ (IsFilesStop c.args.settings.now in_c c.args.files.now)
    (λ stop h. code_stop c.args.settings.now in_c c.args.files.now _ stop (λ lines lacks. files_lack c.args.settings.now in_c c.args.files.now _ _ c.in_ok-code.ensures.left lacks.0 lines lacks.1) h) c.code_text.ensures.stopped
