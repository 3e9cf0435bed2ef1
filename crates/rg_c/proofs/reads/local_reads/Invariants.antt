use Rattle.std.proofs.Common.{◌≡◌, drop}
use Rattle.rg_c.specs.Reads.{with_locals}
use Rattle.rg_c.proofs.reads.local_reads.Given as goal

abbrev pub invariant-loop-word : goal.invariant-loop-word
invariant-loop-word l = with_locals l.reads.items (drop l.word-index l.others) ≡ with_locals l.initial.reads.items l.others
