use Rattle.std.proofs.Common.{◌≡◌, ◌++◌, drop}
use Rattle.rg_erase.specs.Faults.{erased_free}
use Rattle.rg_erase.proofs.definitions.erased_free.Given as goal

-- the flags so far, and those of the rest
abbrev pub invariant-loop-word : goal.invariant-loop-word
invariant-loop-word l = l.flags.items ++ erased_free (drop l.word l.erased) (drop l.word l.layout) ≡ erased_free l.erased l.layout
