use Rattle.std.proofs.Common.{◌≡◌, map}
use Rattle.rg_tree.specs.View.{expression}
use Rattle.rgc_answers.specs.Rows.{primed_row}
use Rattle.rgc_answers.proofs.rows.primed_row.Given as goal

-- the words so far
abbrev pub invariant-loop-word : goal.invariant-loop-word
invariant-loop-word l = map expression l.row.items ≡ primed_row l.word
