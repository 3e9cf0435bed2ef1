use Rattle.std.proofs.Common.{◌≡◌, length, take}
use Rattle.rg_words.specs.Layout.{widths_of}
use Rattle.rg_runs.proofs.states.copy_state.Given as goal

-- the values so far are copied
abbrev pub invariant-loop-word : goal.invariant-loop-word
invariant-loop-word l = record {
  widths : l.copy.widths ≡ widths_of l.layout;
  count : length l.copy.values ≡ length l.layout;
  values : take l.word l.copy.values ≡ take l.word l.state.values;
}
