use Rattle.std.proofs.Common.{◌≡◌, take}
use Rattle.std.specs.Prelude.{count_by}
use Rattle.rg_hint_lines.specs.Inner.Fronts.{is_line_feed}
use Rattle.rg_hint_lines.proofs.text.line_feeds_in_piece.Given as goal

-- those among the bytes so far
abbrev pub invariant-loop-byte : goal.invariant-loop-byte
invariant-loop-byte l = l.count ≡ count_by is_line_feed (take l.byte-index l.piece)
