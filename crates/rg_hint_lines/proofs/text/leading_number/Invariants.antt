use Rattle.std.proofs.Common.{◌≡◌, ◌<◌, ◌≤◌, ◌+◌, ◌*◌, take, true}
use Rattle.std.specs.Str.{all_ascii_digits}
use Rattle.std.specs.Str.Parse.{digits_value}
use Rattle.rg_words.specs.declared.limits.TheConstants.{MOST_HINT_NUMBER}
use Rattle.rg_hint_lines.proofs.text.leading_number.Given as goal

-- what the digits so far write, where it is in range
abbrev pub invariant-loop-byte : goal.invariant-loop-byte
invariant-loop-byte l = record {
  count : l.count ≡ l.byte-index;
  digits : all_ascii_digits (take l.byte-index l.bytes) ≡ true;
  bound : l.number ≤ 10 * MOST_HINT_NUMBER + 9;
  small : l.number ≤ MOST_HINT_NUMBER → l.number ≡ digits_value 10 (take l.byte-index l.bytes);
  large : MOST_HINT_NUMBER < l.number → MOST_HINT_NUMBER < digits_value 10 (take l.byte-index l.bytes);
}
