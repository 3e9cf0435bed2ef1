use Rattle.std.proofs.Common.{◌≡◌, length, map, take}
use Rattle.rg_tree.specs.ConditionTrees.{assignment}
use Rattle.rg_tree.specs.View.{expression}
use Rattle.rgc_answers.specs.Rows.{plain_row, moved_row}
use Rattle.rgc_answers.proofs.rows.moved_row.Given as goal

-- the row after the assignments so far
abbrev pub invariant-loop-a : goal.invariant-loop-a
invariant-loop-a l = record {
  row : map expression l.row.items ≡ moved_row (map assignment (take l.a-index l.act)) (plain_row l.count);
  count : length l.row.items ≡ l.count;
}
