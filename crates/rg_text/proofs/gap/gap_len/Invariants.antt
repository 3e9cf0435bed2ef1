use Rattle.std.proofs.Common.{◌≡◌, ◌+◌, cond, drop}
use Rattle.rg_text.specs.Tokenization.{gap_len, comment_len}
use Rattle.rg_text.proofs.gap.gap_len.Given as goal

-- the bytes so far, and what the rest has in or outside of a comment, are the whole gap
abbrev pub invariant-loop-place : goal.invariant-loop-place
invariant-loop-place l =
    l.place + cond l.in_comment (comment_len (drop l.place l.bytes)) (gap_len (drop l.place l.bytes)) ≡ gap_len l.bytes
