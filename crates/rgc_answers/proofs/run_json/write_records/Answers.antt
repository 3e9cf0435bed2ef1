use Rattle.std.proofs.Common.{◌≡◌, ◌<◌, ◌++◌, ◌∙◌, length, take, get_or, refl, rules}
use Rattle.rg_tree.specs.ProgramTrees.{program}
use Rattle.rgc_answers.specs.Lines.{json_line}
use Rattle.rgc_answers.specs.Records.{record_data, records_text}
use Rattle.rgc_answers.proofs.Items.{item_added, went_more}
use Rattle.rgc_answers.proofs.run_json.write_records.Goals as goal

pub loop-step-preserved : goal.loop-step-preserved
loop-step-preserved g c =
    let records = c.args.records.now in
    let p = program c.args.program.now in
    let i = c.loop-step.step-index in
    let within : i < length records = search rules in
    let line = c.as_bytes.result.now in
    let before = records_text p (take i records) in
    let is : line ≡ json_line (record_data p (get_or records i c.step-item.result)) = search rules in
    let more = item_added (λ r. json_line (record_data p r)) records i c.step-item.result before line (before ++ line) within refl is refl in
    record {
      went = went_more _ _ _ before line _ c.loop-step.invariant.went c.in_ok-write_all.ensures.0 more;
      failures = c.in_ok-write_all.ensures.1 ∙ c.loop-step.invariant.failures;
    }
