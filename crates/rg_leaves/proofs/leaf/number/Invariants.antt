use Rattle.std.proofs.Common.{◌≡◌, ◌<◌, ◌^◌, drop}
use Rattle.std.specs.Str.Parse.{digits_value_after}
use Rattle.rg_leaves.specs.Leaves.{number_of}
use Rattle.rg_leaves.proofs.leaf.number.Given as goal

abbrev pub invariant-loop-digit : goal.invariant-loop-digit
invariant-loop-digit l = record {
  number : digits_value_after 10 l.number (drop l.digit-index l.digits) ≡ number_of l.digits;
  fits : l.number < 2 ^ 64;
}
