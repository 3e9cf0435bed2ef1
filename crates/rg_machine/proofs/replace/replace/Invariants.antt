use Rattle.std.proofs.Common.{◌≡◌, ◌++◌, take, drop}
use Rattle.rg_machine.proofs.replace.replace.Given as goal

abbrev pub invariant-loop-word : goal.invariant-loop-word
invariant-loop-word l = record {
  values : l.state.values ≡ take l.word l.by.values ++ drop l.word l.initial.state.values;
  widths : l.state.widths ≡ l.initial.state.widths;
}
