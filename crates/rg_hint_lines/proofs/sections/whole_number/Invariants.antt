use Rattle.std.proofs.Common.{◌≡◌, ◌<◌, ◌≤◌, ◌+◌, ◌*◌, take, true}
use Rattle.std.specs.Str.{all_ascii_digits}
use Rattle.std.specs.Str.Parse.{digits_value}
use Rattle.rg_hint_lines.proofs.sections.whole_number.Given as goal

-- what the digits so far write, where it is no more than the most
abbrev pub invariant-loop-byte : goal.invariant-loop-byte
invariant-loop-byte l = record {
  digits : all_ascii_digits (take l.byte-index l.field) ≡ true;
  bound : l.number ≤ 10 * l.most + 9;
  small : l.number ≤ l.most → l.number ≡ digits_value 10 (take l.byte-index l.field);
  large : l.most < l.number → l.most < digits_value 10 (take l.byte-index l.field);
}
