use Rattle.std.proofs.Common.{drop}
use Rattle.rg_words.specs.States.{AgreeOnFixed}
use Rattle.rg_machine.proofs.replace.agree_on_fixed.Given as goal

abbrev pub invariant-loop-word : goal.invariant-loop-word
invariant-loop-word l = record {
  enough : AgreeOnFixed (drop l.word l.layout) (drop l.word l.before.values) (drop l.word l.after.values) → AgreeOnFixed l.layout l.before.values l.after.values;
  needed : AgreeOnFixed l.layout l.before.values l.after.values → AgreeOnFixed (drop l.word l.layout) (drop l.word l.before.values) (drop l.word l.after.values);
}
