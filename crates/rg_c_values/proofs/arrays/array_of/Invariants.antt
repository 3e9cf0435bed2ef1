use Rattle.std.proofs.Common.{◌≡◌, ◌-◌, ◌&&◌, length}
use Rattle.std.specs.Prelude.{nat_le, nat_lt}
use Rattle.std.specs.List.{find, range_with_len}
use Rattle.rg_c_values.specs.Arrays.{array_length, array_of}
use Rattle.rg_c_values.proofs.arrays.array_of.Given as goal

-- the word is in no array that begins at one of those so far
abbrev pub invariant-loop-first : goal.invariant-loop-first
invariant-loop-first l =
    find (λ j. nat_le j l.word && nat_lt (l.word - j) (array_length l.layout j)) (range_with_len l.first (length l.layout - l.first)) ≡ array_of l.layout l.word
