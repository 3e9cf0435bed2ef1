use Rattle.std.proofs.Common.{◌≡◌, ◌∙◌, ap}
use Rattle.rg_tree.specs.ProgramTrees.{program}
use Rattle.rgc_answers.specs.Records.{records_text, ending_text}
use Rattle.rgc_answers.proofs.Items.{both_went}
use Rattle.rgc_answers.proofs.run_json.write_run.Goals as goal

pub returns-clause-printed : goal.returns-clause-printed
returns-clause-printed g c =
    let p = program c.args.program.now in
    let records : c.deref.result.now ≡ c.args.closed.now.history = c.deref.ensures.value ∙ c.in_ok-records.ensures in
    let ending : c.as_bytes.result.now ≡ ending_text c.args.closed.now = c.as_bytes.ensures.value ∙ c.in_ok-ending.ensures in
    both_went _ _ _ _ _ (records_text p c.args.closed.now.history) (ending_text c.args.closed.now) c.in_ok-write_records.ensures.printed c.in_ok-write_all.ensures.0 (ap (records_text p) records) ending
