use Rattle.std.proofs.Common.{◌≡◌, map}
use Rattle.std.specs.List.{range_with_len}
use Rattle.rg_c.specs.Reads.{kind_read}
use Rattle.rg_c.proofs.reads.kind_reads.Given as goal

abbrev pub invariant-loop-word : goal.invariant-loop-word
invariant-loop-word l = l.reads.items ≡ map (kind_read l.kinds) (range_with_len 0 l.word)
