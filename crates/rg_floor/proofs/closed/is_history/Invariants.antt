use Rattle.std.proofs.Common.{◌≡◌, drop}
use Rattle.std.specs.Prelude.{◌↔◌}
use Rattle.rg_words.specs.Layout.{widths_of}
use Rattle.rg_tree.specs.ProgramTrees.{program}
use Rattle.rg_floor.specs.Changes.{rebuilt}
use Rattle.rg_floor.proofs.closed.is_history.Given as goal

-- what is left is to be compared, and all before was equal
abbrev pub invariant-loop-i : goal.invariant-loop-i
invariant-loop-i l = record {
  before_widths : l.before.widths ≡ widths_of l.program.layout;
  after_widths : l.after.widths ≡ widths_of l.program.layout;
  equal : l.after.values ≡ l.before.values;
  rest : (drop l.i l.printed ≡ rebuilt (program l.program) l.i l.before.values (drop l.i l.changes)) ↔ (l.printed ≡ rebuilt (program l.program) 0 l.start.values l.changes);
}
