use Rattle.std.proofs.Common.{◌≡◌, drop, length}
use Rattle.rg_tree.specs.Moves.{given}
use Rattle.rg_tree.proofs.moves.give.Given as goal

abbrev pub invariant-loop-value : goal.invariant-loop-value
invariant-loop-value l = record {
  widths : l.state.widths ≡ l.initial.state.widths;
  sized : length l.state.widths ≡ length l.state.values;
  rest : given (drop l.value-index l.values) l.state.values ≡ given l.values l.initial.state.values;
}
