use Rattle.std.proofs.Common.{◌≡◌, take}
use Rattle.std.specs.Io.KnownBytes.{Appends}
use Rattle.rg_tree.specs.ProgramTrees.{program}
use Rattle.rgc_answers.specs.Records.{records_text}
use Rattle.rgc_answers.proofs.run_json.write_records.Given as goal

-- the lines so far went out, with no failure
abbrev pub invariant-loop-step : goal.invariant-loop-step
invariant-loop-step g l = record {
  went : Appends (g.W.Out.contents l.initial.out) (g.W.Out.contents l.out) (records_text (program l.program) (take l.step-index l.records));
  failures : g.W.Out.failures l.out ≡ g.W.Out.failures l.initial.out;
}
