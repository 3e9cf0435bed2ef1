use Rattle.std.proofs.Common.{◌≡◌, ◌-◌, ◌≤◌, length}
use Rattle.rg_text.specs.Tokenization.{line_at, AreTokens}
use Rattle.rg_text.proofs.tokens.cut.Given as goal

-- the tokens so far lead to this place, which is in this line
abbrev pub invariant-loop-file : goal.invariant-loop-file
invariant-loop-file l = record {
  within : l.end ≤ length l.source;
  line : l.line ≡ line_at l.source l.end;
  tokens : AreTokens l.source 0 l.tokens.items l.end;
}

-- the bytes after it
abbrev pub decreases-loop-file : goal.decreases-loop-file
decreases-loop-file l = length l.source - l.end
