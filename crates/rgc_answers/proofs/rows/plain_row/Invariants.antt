use Rattle.std.proofs.Common.{◌≡◌, map}
use Rattle.rg_tree.specs.View.{expression}
use Rattle.rgc_answers.specs.Rows.{plain_row}
use Rattle.rgc_answers.proofs.rows.plain_row.Given as goal

-- the words so far
abbrev pub invariant-loop-word : goal.invariant-loop-word
invariant-loop-word l = map expression l.row.items ≡ plain_row l.word
