use Rattle.std.proofs.Common.{◌≡◌, ◌++◌, drop}
use Rattle.rg_words.specs.Layout.{widths_of}
use Rattle.rg_tree.specs.ProgramTrees.{program}
use Rattle.rg_floor.specs.Changes.{rebuilt}
use Rattle.rg_floor.proofs.closed.records_on.Given as goal

-- what was made, and what the rest will make, is the whole
abbrev pub invariant-loop-i : goal.invariant-loop-i
invariant-loop-i l = record {
  before_widths : l.before.widths ≡ widths_of l.program.layout;
  after_widths : l.after.widths ≡ widths_of l.program.layout;
  equal : l.after.values ≡ l.before.values;
  rest : l.records.items ++ rebuilt (program l.program) l.i l.before.values (drop l.i l.changes) ≡ rebuilt (program l.program) l.count l.from.values (drop l.count l.changes);
}
