use Rattle.std.proofs.Common.{ℕ, Option, Bool, List, subst}
use Rattle.std.specs.Prelude.{string_bytes}
use Rattle.std.proofs.lemmas.Result.{err_from_is_err_and, IfOk-weaker, IfErr-weaker}
use Rattle.rgc_commands.specs.Answers.{AsInOutline, HasCode, IsLeftOfOutline}
use Rattle.rgc_commands.specs.Code.{AreAmong, coded_program, is_in_c, shown}
use Rattle.rgc_commands.specs.Inner.Stops.{IsProofStop}
use Rattle.rgc_commands.specs.Priority.{priority_for}
use Rattle.rgc_commands.specs.Stops.{LacksCodeOfOutline}
use Rattle.rgc_commands.proofs.Apart.{apart_at_fewer}
use Rattle.rgc_commands.proofs.Printing.{coded_over, outline_lacks, printed_for_equal}
use Rattle.rgc_commands.proofs.Stopping.{proof_code_stop}
use Rattle.rgc_commands.proofs.coding.proved_text.Goals as goal

pub returns-in_err-code-clause-stopped : goal.returns-in_err-code-clause-stopped
returns-in_err-code-clause-stopped g c = λ steps.
    let p = err_from_is_err_and c.from_residual.result c.from_residual.ensures.1 in
    rw (p.1, p.2) (c.in_err-code.ensures.stopped steps (is_in_c (shown c.args.form)))

pub returns-clause-text : goal.returns-clause-text
returns-clause-text g c =
    IfOk-weaker c.code_text.result _ (λ text. HasCode (IsLeftOfOutline c.args.settings.now.erase c.args.settings.now.keeps_aux c.args.outlined.now.files) AsInOutline (priority_for c.args.settings.now.priority c.args.outlined.now.files) (shown c.args.form) (string_bytes text))
    (λ text printed. record {
      coded = c.in_ok-code.code;
      left = c.in_ok-code.ensures.left;
      over = coded_over c.in_ok-code.code;
      apart = printed.0;
      lines = _;
      operations = _;
      are = apart_at_fewer _ printed.0 c.in_ok-code.apart.items (subst (λ (those : List Bool). AreAmong printed.0 those) c.deref-3.ensures.value printed.1) c.in_ok-code.ensures.apart;
      printed = printed_for_equal (shown c.args.form) _ _ _ _ printed.0 c.in_ok-code.code (string_bytes text) c.priority_for-priority.ensures printed.2;
    }) c.code_text.ensures.printed

pub returns-clause-stopped : goal.returns-clause-stopped
returns-clause-stopped g c = λ steps.
    let in_c = is_in_c (shown c.args.form) in
    let outline = c.args.outlined.now.files in
    IfErr-weaker c.code_text.result _ (IsProofStop outline steps (λ lines. LacksCodeOfOutline c.args.settings.now in_c lines outline))
    (λ stop h. proof_code_stop outline steps _ _ c.requires (λ lines lacks. outline_lacks c.args.settings.now in_c outline _ _ c.in_ok-code.ensures.left lacks.0 _ _ lines c.priority_for-priority.ensures lacks.1) stop h) c.code_text.ensures.stopped
