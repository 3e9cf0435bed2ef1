use Rattle.std.proofs.Common.{◌≡◌, ◌+◌, ◌≤◌, length}
use Rattle.std.specs.Prelude.{count_by}
use Rattle.rg_hint_lines.specs.Inner.Fronts.{is_line_feed}
use Rattle.rg_hint_lines.proofs.text.line_feeds.Given as goal

-- those so far and those in the rest are all
abbrev pub invariant-loop-rest : goal.invariant-loop-rest
invariant-loop-rest l = record {
  all : l.count + count_by is_line_feed l.rest ≡ count_by is_line_feed l.text;
  room : l.count + length l.rest ≤ length l.text;
}

abbrev pub decreases-loop-rest : goal.decreases-loop-rest
decreases-loop-rest l = length l.rest
