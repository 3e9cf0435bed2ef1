use Rattle.std.proofs.Common.{◌≡◌, ◌-◌, ◌++◌, length, map}
use Rattle.std.specs.Prelude.{replicate}
use Rattle.std.specs.List.{range_with_len}
use Rattle.rg_words.specs.Layout.{widths_of}
use Rattle.rg_tree.specs.View.{formula}
use Rattle.rg_c.specs.Starts.{given_value}
use Rattle.rg_c.proofs.start.given_values.Given as goal

-- the values so far are given, and the others are 0
abbrev pub invariant-loop-word : goal.invariant-loop-word
invariant-loop-word l = record {
  widths : l.state.widths ≡ widths_of l.program.layout;
  count : length l.state.values ≡ length l.program.layout;
  values : l.state.values ≡ map (given_value (formula l.program.spec.pre)) (range_with_len 0 l.word) ++ replicate (length l.program.layout - l.word) 0;
}
