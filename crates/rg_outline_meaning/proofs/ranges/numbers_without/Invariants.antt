use Rattle.std.proofs.Common.{◌≡◌, take}
use Rattle.rg_outline_meaning.specs.Members.{without}
use Rattle.rg_outline_meaning.proofs.ranges.numbers_without.Given as goal

-- the others so far
abbrev pub invariant-loop-number : goal.invariant-loop-number
invariant-loop-number l = l.others.items ≡ without l.left_out (take l.number-index l.numbers)
